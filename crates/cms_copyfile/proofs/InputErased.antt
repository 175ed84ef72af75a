-- Behind its copy a file may be erased.
use Rattle.std.proofs.Common.{◌≡◌, ◌∙◌, List, Result, Ok, Err, refl, sym, ap, subst}
use Rattle.std.specs.Prelude.{Bool, false, true}
use Rattle.cms_names.specs.declared.name.Name.{Name}
use Rattle.cms_model.specs.Acts.{Act, Done, bind}
use Rattle.cms_model.specs.Slots.{Slot}
use Rattle.cms_line.specs.declared.token.Token.{Token}
use Rattle.cms_search.specs.Calls.{Acts, Spot, machine_of}
use Rattle.cms_search.specs.DeviceSteps.{Did, Stepped}
use Rattle.cms_search.specs.Machine.{Machine}
use Rattle.cms_search.specs.declared.state.Course.{Course}
use Rattle.cms_search.specs.declared.state.End.{End}
use Rattle.cms_search.proofs.Acts.{acts_after, acts_done, acts_same, acts_stop, comes_in, comes_none}
use Rattle.cms_files.specs.ModeThree.{consuming}
use Rattle.cms_files.specs.Updates.{updated_of}
use Rattle.cms_files.specs.declared.update.Updated.{Updated}
use Rattle.cms_files.specs.declared.update.Updated.TheVariants as came
use Rattle.cms_copyfile.specs.Copyfile.{copy_erased, copy_into, erasing, may_erase, with_copying}
use Rattle.cms_copyfile.specs.FileCopies.{IsCopying, IsFileCopy, copied_to, may_erase_input}
use Rattle.cms_copyfile.specs.declared.copy.FileCopy.{FileCopy}
use Rattle.cms_copyfile.specs.declared.line.CopyLine.{CopyLine}
use Rattle.cms_copyfile.proofs.FilesCopied.{acts_copying, copying_is}

-- ---- the tree

may_so : (s : Machine) (line : CopyLine) (c : FileCopy) (x : IsCopying s line c) → may_erase line (copied_to s line c x) ≡ may_erase_input line c
may_so s line c x =
    let name = x.input.name in
    let count = x.input.count in
    let to = x.to in
    let called = x.name in
    rw (name, count, to, called) refl

abbrev pub behind : CopyLine → FileCopy → Stepped → Act Stepped
behind line c = erasing (may_erase_input line c) c.found.letter c.input.name

pub erased_so : (s : Machine) (words : List Token) (line : CopyLine) (c : FileCopy) (x : IsCopying s line c)
    → copy_erased s words line (copied_to s line c x)
    ≡ bind (with_copying words line s c.found (copy_into s words line)) (behind line c)
erased_so s words line c x =
    let made = copied_to s line c x in
    ap (λ (b : Bool). bind (copy_into s words line made) (erasing b made.letter made.input.file.name)) (may_so s line c x)
    ∙ (ap (λ (n : Name). bind (copy_into s words line made) (erasing (may_erase_input line c) made.letter n)) (sym x.input.name)
    ∙ ap (λ (a : Act Stepped). bind a (behind line c)) (sym (copying_is words line s c (copy_into s words line) x)))

-- ---- the erasure

-- it may not be erased
pub not_erased : (old : Spot) (line : CopyLine) (c : FileCopy) → may_erase_input line c ≡ false
    → Acts old old (λ units. behind line c (Did (machine_of old.state units))) (Ok came.Done) (updated_of old.state)
not_erased old line c not' =
    acts_same old old (λ units. behind line c (Did (machine_of old.state units))) (λ units. Done (Did (machine_of old.state units))) (Ok came.Done)
    (updated_of old.state) (λ units h. rw not' refl) (acts_done old old (λ units. Done (Did (machine_of old.state units))) came.Done (updated_of old.state)
    (comes_none old (λ units. Done (Did (machine_of old.state units)))))

-- or it may
pub is_erased : (old new : Spot) (line : CopyLine) (c : FileCopy) (r : Result Updated End) → may_erase_input line c ≡ true
    → Acts old new (λ units. consuming (machine_of old.state units) c.found.letter c.input.name) r (updated_of new.state)
    → Acts old new (λ units. behind line c (Did (machine_of old.state units))) r (updated_of new.state)
is_erased old new line c r may a =
    acts_same old new (λ units. behind line c (Did (machine_of old.state units)))
    (λ units. consuming (machine_of old.state units) c.found.letter c.input.name) r (updated_of new.state) (λ units h. rw may refl) a

-- ---- behind the copy

module _ (old : Spot) (words : List Token) (line : CopyLine) (c : FileCopy) (is : IsFileCopy old.state.table line c) where
  abbrev copied : List Slot → Act Stepped
  copied units = with_copying words line (machine_of old.state units) c.found (copy_into (machine_of old.state units) words line)

  abbrev erased : List Slot → Act Stepped
  erased units = with_copying words line (machine_of old.state units) c.found (copy_erased (machine_of old.state units) words line)

  erased_as : (new : Spot) (r : Result Updated End) → Acts old new (λ units. bind (copied units) (behind line c)) r (updated_of new.state) → Acts old new erased r (updated_of new.state)
  erased_as new r a =
      acts_copying old new words line c (λ m. copy_erased m words line) (λ units. bind (copied units) (behind line c)) r (updated_of new.state) is
      (λ units x h. erased_so (machine_of old.state units) words line c x) a

  -- it was copied
  pub erased_behind : (mid new : Spot) (x : Updated) (r : Result Updated End) → Acts old mid copied (Ok x) (updated_of mid.state) → x ≡ came.Done
      → Acts mid new (λ units. behind line c (Did (machine_of mid.state units))) r (updated_of new.state) → Acts old new erased r (updated_of new.state)
  erased_behind mid new x r a done b =
      let copy = subst (λ (y : Updated). Acts old mid copied (Ok y) (updated_of mid.state)) done a in
      erased_as new r
      (acts_after old mid new (λ units. bind (copied units) (behind line c)) (λ units. behind line c (Did (machine_of mid.state units))) r (updated_of new.state)
      (comes_in old mid copied (behind line c) came.Done (updated_of mid.state) copy) b)

  -- or the command ended
  pub erased_stopped : (new : Spot) (x : Updated) (course : Course) → Acts old new copied (Ok x) (updated_of new.state) → x ≡ came.Stopped course
      → Acts old new erased (Ok (came.Stopped course)) (updated_of new.state)
  erased_stopped new x course a ended =
      let copy = subst (λ (y : Updated). Acts old new copied (Ok y) (updated_of new.state)) ended a in
      erased_as new (Ok (came.Stopped course))
      (acts_done old new (λ units. bind (copied units) (behind line c)) (came.Stopped course) (updated_of new.state)
      (comes_in old new copied (behind line c) (came.Stopped course) (updated_of new.state) copy))

  -- or it was cut off
  pub erased_never : (new : Spot) (e : End) → Acts {T = Updated} old new copied (Err e) (updated_of new.state) → Acts {T = Updated} old new erased (Err e) (updated_of new.state)
  erased_never new e a = erased_as new (Err e) (acts_stop old new copied (behind line c) e (updated_of new.state) (updated_of new.state) a)
