-- Records of a host file that are put in a draft while it is read.
use Rattle.std.proofs.Common.{◌≡◌, ◌∙◌, ℕ, true, false, List, [], ◌∷◌, ◌++◌, take, drop, Option, Some, Result, Ok, Err, refl, ap, sym, subst, append_assoc, append-nil}
use Rattle.std.specs.Prelude.{⊤}
use Rattle.cms_journal.specs.Told.{Told}
use Rattle.cms_fields.specs.declared.time.Stamp.{Stamp}
use Rattle.cms_model.specs.Changes.{Change}
use Rattle.cms_model.specs.Minidisks.{Minidisk}
use Rattle.cms_edf.specs.FileDrafts.{Draft}
use Rattle.cms_disk.specs.Disks.{Accessed}
use Rattle.cms_disk.specs.Drafts.{GoesOn, IsGivenUp}
use Rattle.mini_forms.specs.RecordReads.{Reader, ended, fed, read_from, whole_in}
use Rattle.mini_forms.specs.declared.form.FormFault.{FormFault}
use Rattle.mini_host.specs.Files.{Files}
use Rattle.mini_work.specs.HostRecords.{IsReadOn, PutsAll, PutsSo, PutsText, PutsTo, with_left}
use Rattle.mini_work.specs.declared.host_records.FileFault.{FileFault}
use Rattle.mini_work.specs.declared.host_records.FileFault.TheVariants as fault
use Rattle.mini_work.proofs.Fed.{behind, end_fault, none_here, reads_end, reads_fault, reads_one, whole_here}
use Rattle.mini_work.proofs.MeasuredFile.{left_same, split_at}

-- ---- what comes next

-- records behind others
record Splits (came more : List (List ℕ)) (r : Result (List (List ℕ)) FormFault) : Type 0 where
  left : List (List ℕ)
  is : r ≡ Ok left
  split : more ≡ came ++ left

splits : (came more : List (List ℕ)) (r : Result (List (List ℕ)) FormFault) → behind came r ≡ Ok more → Splits came more r
splits came more (Ok left) is = record { left = left; is = refl; split = let e : more ≡ came ++ left = cc is in e }
splits came more (Err why) is = absurd (cc is)

-- no record is whole with this byte
pub puts_still : (start now : Told) (d : Accessed) (m : Minidisk) (draft : Draft) (change : Change) (stamp : Stamp) (done more : List (List ℕ)) (s t : Reader) (b : ℕ) (rest : List ℕ)
    → GoesOn start now d m draft change stamp done more → read_from s (b ∷ rest) ≡ Ok more → fed s b ≡ Ok t → t.whole ≡ false
    → PutsTo start now d m draft change stamp done more t rest
puts_still start now d m draft change stamp done more s t b rest goes is next fresh =
    let x = splits (whole_in t) more (read_from t rest) (sym (reads_one s t b rest next) ∙ is) in
    let same : more ≡ x.left = x.split ∙ ap (λ (l : List (List ℕ)). l ++ x.left) (none_here t fresh) in
    record {
      came = [];
      left = x.left;
      split = same;
      goes = subst (λ (l : List (List ℕ)). GoesOn start now d m draft change stamp l x.left) (sym (append-nil done))
          (subst (λ (l : List (List ℕ)). GoesOn start now d m draft change stamp done l) same goes);
      reads = x.is;
    }

-- or one is, and it was put
pub puts_one : (start old new : Told) (d : Accessed) (m : Minidisk) (draft draft' : Draft) (change : Change) (stamp : Stamp) (done more : List (List ℕ)) (s t : Reader) (b : ℕ)
    (text rest : List ℕ) (r : Result ⊤ FileFault) → GoesOn start old d m draft change stamp done more → read_from s (b ∷ rest) ≡ Ok more → fed s b ≡ Ok t
    → t.whole ≡ true → text ≡ t.bytes
    → ((left : List (List ℕ)) → GoesOn start old d m draft change stamp done (text ∷ left) → PutsText start new d m draft' change stamp (done ++ text ∷ []) left r)
    → PutsSo start new d m draft' change stamp done more t rest r
puts_one start old new d m draft draft' change stamp done more s t b text rest r goes is next whole same puts =
    let x = splits (whole_in t) more (read_from t rest) (sym (reads_one s t b rest next) ∙ is) in
    let one : more ≡ text ∷ x.left =
    x.split ∙ ap (λ (l : List (List ℕ)). l ++ x.left) (whole_here t whole ∙ ap (λ (y : List ℕ). y ∷ []) (sym same)) in
    came r x.left one x.is (puts x.left (subst (λ (l : List (List ℕ)). GoesOn start old d m draft change stamp done l) one goes))
  where
    came : (r : Result ⊤ FileFault) (left : List (List ℕ)) → more ≡ text ∷ left → read_from t rest ≡ Ok left
        → PutsText start new d m draft' change stamp (done ++ text ∷ []) left r → PutsSo start new d m draft' change stamp done more t rest r
    came (Ok x) left one reads goes = record { came = text ∷ []; left = left; split = one; goes = goes; reads = reads }
    came (Err (fault.Form why)) left one reads goes = goes
    came (Err fault.Changed) left one reads goes = goes
    came (Err (fault.Fault why)) left one reads goes = goes

-- it has no fault
pub puts_never : (s : Reader) (b : ℕ) (rest : List ℕ) (more : List (List ℕ)) (why : FormFault) → read_from s (b ∷ rest) ≡ Ok more → fed s b ≡ Err why → ⊥
puts_never s b rest more why is next = clash (read_from s (b ∷ rest)) is (reads_fault s b rest why next)
  where
    clash : (r : Result (List (List ℕ)) FormFault) → r ≡ Ok more → r ≡ Err why → ⊥
    clash (Ok x) p q = cc q
    clash (Err e) p q = cc p

-- ---- bytes one after another

pub puts_first : (start now : Told) (d : Accessed) (m : Minidisk) (draft : Draft) (change : Change) (stamp : Stamp) (done more : List (List ℕ)) (s : Reader) (bytes : List ℕ)
    → GoesOn start now d m draft change stamp done more → read_from s bytes ≡ Ok more → PutsTo start now d m draft change stamp done more s bytes
puts_first start now d m draft change stamp done more s bytes goes is = record {
  came = [];
  left = more;
  split = refl;
  goes = subst (λ (l : List (List ℕ)). GoesOn start now d m draft change stamp l more) (sym (append-nil done)) goes;
  reads = is;
}

-- bytes that only go on with the record that is begun
pub puts_skip : (start now : Told) (d : Accessed) (m : Minidisk) (draft : Draft) (change : Change) (stamp : Stamp) (done more : List (List ℕ))
    (s t : Reader) (bytes rest : List ℕ) → PutsTo start now d m draft change stamp done more s bytes → read_from s bytes ≡ read_from t rest
    → PutsTo start now d m draft change stamp done more t rest
puts_skip start now d m draft change stamp done more s t bytes rest p same =
    record { came = p.came; left = p.left; split = p.split; goes = p.goes; reads = sym same ∙ p.reads }

pub puts_more : (start old new : Told) (d : Accessed) (m : Minidisk) (first draft draft' : Draft) (change : Change) (stamp : Stamp) (done more : List (List ℕ)) (s t : Reader) (bytes rest : List ℕ)
    (b : ℕ) (r : Result ⊤ FileFault) → PutsTo start old d m draft change stamp done more s bytes → bytes ≡ b ∷ rest
    → ((front behind : List (List ℕ)) → GoesOn start old d m draft change stamp front behind → read_from s (b ∷ rest) ≡ Ok behind
    → PutsSo start new d m draft' change stamp front behind t rest r)
    → PutsSo start new d m draft' change stamp done more t rest r
puts_more start old new d m first draft draft' change stamp done more s t bytes rest b r p is puts =
    join r (puts (done ++ p.came) p.left p.goes (subst (λ (x : List ℕ). read_from s x ≡ Ok p.left) is p.reads))
  where
    join : (r : Result ⊤ FileFault) → PutsSo start new d m draft' change stamp (done ++ p.came) p.left t rest r → PutsSo start new d m draft' change stamp done more t rest r
    join (Ok x) q = record {
      came = p.came ++ q.came;
      left = q.left;
      split = p.split ∙ ap (λ (l : List (List ℕ)). p.came ++ l) q.split ∙ sym (append_assoc p.came q.came q.left);
      goes = subst (λ (l : List (List ℕ)). GoesOn start new d m draft' change stamp l q.left) (append_assoc done p.came q.came) q.goes;
      reads = q.reads;
    }
    join (Err (fault.Form why)) q = q
    join (Err fault.Changed) q = q
    join (Err (fault.Fault why)) q = q

-- ---- the last one

pub last_none : (start now : Told) (d : Accessed) (m : Minidisk) (draft : Draft) (change : Change) (stamp : Stamp) (done more : List (List ℕ)) (s t : Reader)
    → GoesOn start now d m draft change stamp done more → read_from s [] ≡ Ok more → ended s ≡ Ok t → t.whole ≡ false → GoesOn start now d m draft change stamp (done ++ more) []
last_none start now d m draft change stamp done more s t goes is next fresh =
    let none : more ≡ [] = (let e : Ok more ≡ Ok (whole_in t) = sym is ∙ reads_end s t next in let f : more ≡ whole_in t = cc e in f) ∙ none_here t fresh in
    subst (λ (l : List (List ℕ)). GoesOn start now d m draft change stamp l []) (sym (ap (λ (l : List (List ℕ)). done ++ l) none ∙ append-nil done))
    (subst (λ (l : List (List ℕ)). GoesOn start now d m draft change stamp done l) none goes)

pub last_one : (start old new : Told) (d : Accessed) (m : Minidisk) (draft draft' : Draft) (change : Change) (stamp : Stamp) (done more : List (List ℕ)) (s t : Reader) (text : List ℕ)
    (r : Result ⊤ FileFault) → GoesOn start old d m draft change stamp done more → read_from s [] ≡ Ok more → ended s ≡ Ok t → t.whole ≡ true → text ≡ t.bytes
    → (GoesOn start old d m draft change stamp done (text ∷ []) → PutsText start new d m draft' change stamp (done ++ text ∷ []) [] r)
    → PutsAll start new d m draft' change stamp (done ++ more) r
last_one start old new d m draft draft' change stamp done more s t text r goes is next whole same puts =
    let one : more ≡ text ∷ [] =
    (let e : Ok more ≡ Ok (whole_in t) = sym is ∙ reads_end s t next in let f : more ≡ whole_in t = cc e in f)
    ∙ whole_here t whole ∙ ap (λ (y : List ℕ). y ∷ []) (sym same) in
    all r (done ++ more) (done ++ text ∷ []) (ap (λ (l : List (List ℕ)). done ++ l) (sym one))
    (puts (subst (λ (l : List (List ℕ)). GoesOn start old d m draft change stamp done l) one goes))
  where
    all : (r : Result ⊤ FileFault) (whole some : List (List ℕ)) → some ≡ whole → PutsText start new d m draft' change stamp some [] r → PutsAll start new d m draft' change stamp whole r
    all (Ok x) whole some e p = subst (λ (l : List (List ℕ)). GoesOn start new d m draft' change stamp l []) e p
    all (Err (fault.Form why)) whole some e p = p
    all (Err fault.Changed) whole some e p = p
    all (Err (fault.Fault why)) whole some e p = p

pub last_never : (s : Reader) (more : List (List ℕ)) (why : FormFault) → read_from s [] ≡ Ok more → ended s ≡ Err why → ⊥
last_never s more why is next = clash (read_from s []) is (end_fault s why next)
  where
    clash : (r : Result (List (List ℕ)) FormFault) → r ≡ Ok more → r ≡ Err why → ⊥
    clash (Ok x) p q = cc q
    clash (Err e) p q = cc p

-- ---- the whole of a host file

-- so far, where the host tells its files
pub record PutsOn (start now : Told) (d : Accessed) (m : Minidisk) (draft : Draft) (change : Change) (stamp : Stamp) (records : List (List ℕ)) (s : Reader) (h : Files) (k : Option Files) :
    Type 0 where
  pub came : List (List ℕ)
  pub left : List (List ℕ)
  pub rest : List ℕ
  pub split : records ≡ came ++ left
  pub goes : GoesOn start now d m draft change stamp came left
  pub told : k ≡ Some (with_left rest h)
  pub reads : read_from s rest ≡ Ok left

pub on_first : (start now : Told) (d : Accessed) (m : Minidisk) (draft : Draft) (change : Change) (stamp : Stamp) (records : List (List ℕ)) (s : Reader) (h : Files) (k : Option Files)
    (bytes : List ℕ) → GoesOn start now d m draft change stamp [] records → k ≡ Some h → h.left ≡ Some bytes → read_from s bytes ≡ Ok records
    → PutsOn start now d m draft change stamp records s h k
on_first start now d m draft change stamp records s h k bytes goes told left is = record {
  came = [];
  left = records;
  rest = bytes;
  split = refl;
  goes = goes;
  told = told ∙ ap (λ (z : Files). Some z) (left_same h bytes left);
  reads = is;
}

-- it may be given up
pub on_given : (start now : Told) (d : Accessed) (m : Minidisk) (draft : Draft) (change : Change) (stamp : Stamp) (records : List (List ℕ)) (s : Reader) (h : Files) (k : Option Files)
    → PutsOn start now d m draft change stamp records s h k → IsGivenUp start now d m change
on_given start now d m draft change stamp records s h k p = record { stands = p.goes.stands; aside = p.goes.aside; few = p.goes.few }

-- what the host reads of it
abbrev pub ReadsSo : Option Files → Option Files → ℕ → List ℕ → Type 0
ReadsSo k l n into = (h : Files) (left : List ℕ) → k ≡ Some h → h.left ≡ Some left → IsReadOn n left into h l

-- what putting what was read comes to
abbrev pub OnSo : Told → Told → Accessed → Minidisk → Draft → Change → Stamp → List (List ℕ) → Reader → Files → Option Files → Result ⊤ FileFault → Type 0
OnSo start now d m draft change stamp records s h k (Ok x) = PutsOn start now d m draft change stamp records s h k
OnSo start now d m draft change stamp records s h k (Err (fault.Form why)) = ⊥
OnSo start now d m draft change stamp records s h k (Err fault.Changed) = ⊥
OnSo start now d m draft change stamp records s h k (Err (fault.Fault why)) = IsGivenUp start now d m change

-- bytes that were read were put
pub on_more : (start old new : Told) (d : Accessed) (m : Minidisk) (draft draft' : Draft) (change : Change) (stamp : Stamp) (records : List (List ℕ)) (s t : Reader) (h : Files)
    (k l : Option Files) (n : ℕ) (into text : List ℕ) (r : Result ⊤ FileFault) → PutsOn start old d m draft change stamp records s h k → ReadsSo k l n into
    → text ≡ take n into
    → ((done more : List (List ℕ)) (rest : List ℕ) → GoesOn start old d m draft change stamp done more → read_from s (text ++ rest) ≡ Ok more
    → PutsSo start new d m draft' change stamp done more t rest r)
    → OnSo start new d m draft' change stamp records t h l r
on_more start old new d m draft draft' change stamp records s t h k l n into text r p more is puts =
    let on = more (with_left p.rest h) p.rest p.told refl in
    join r on.told (puts p.came p.left (drop n p.rest) p.goes
    (subst (λ (x : List ℕ). read_from s x ≡ Ok p.left) (sym (split_at n p.rest into text on.bytes is)) p.reads))
  where
    join : (r : Result ⊤ FileFault) → l ≡ Some (with_left (drop n p.rest) h) → PutsSo start new d m draft' change stamp p.came p.left t (drop n p.rest) r
        → OnSo start new d m draft' change stamp records t h l r
    join (Ok x) told q = record {
      came = p.came ++ q.came;
      left = q.left;
      rest = drop n p.rest;
      split = p.split ∙ ap (λ (y : List (List ℕ)). p.came ++ y) q.split ∙ sym (append_assoc p.came q.came q.left);
      goes = q.goes;
      told = told;
      reads = q.reads;
    }
    join (Err (fault.Form why)) told q = q
    join (Err fault.Changed) told q = q
    join (Err (fault.Fault why)) told q = q

-- nothing is left of it
pub on_last : (start old new : Told) (d : Accessed) (m : Minidisk) (draft draft' : Draft) (change : Change) (stamp : Stamp) (records : List (List ℕ)) (s : Reader) (h : Files)
    (k l : Option Files) (n : ℕ) (into : List ℕ) (r : Result ⊤ FileFault) → PutsOn start old d m draft change stamp records s h k → ReadsSo k l n into → n ≡ 0
    → ((done more : List (List ℕ)) → GoesOn start old d m draft change stamp done more → read_from s [] ≡ Ok more → PutsAll start new d m draft' change stamp (done ++ more) r)
    → PutsAll start new d m draft' change stamp records r
on_last start old new d m draft draft' change stamp records s h k l n into r p more none puts =
    let on = more (with_left p.rest h) p.rest p.told refl in
    subst (λ (x : List (List ℕ)). PutsAll start new d m draft' change stamp x r) (sym p.split)
    (puts p.came p.left p.goes (subst (λ (x : List ℕ). read_from s x ≡ Ok p.left) (on.ended none) p.reads))

pub on_stopped : (start now : Told) (d : Accessed) (m : Minidisk) (draft : Draft) (change : Change) (stamp : Stamp) (records : List (List ℕ)) (s : Reader) (h : Files) (k : Option Files)
    (why : FileFault) → OnSo start now d m draft change stamp records s h k (Err why) → PutsAll start now d m draft change stamp records (Err why)
on_stopped start now d m draft change stamp records s h k (fault.Form why) p = p
on_stopped start now d m draft change stamp records s h k fault.Changed p = p
on_stopped start now d m draft change stamp records s h k (fault.Fault why) p = p

-- before the first byte
pub none_given : (start now : Told) (d : Accessed) (m : Minidisk) (draft : Draft) (change : Change) (stamp : Stamp) (done more : List (List ℕ)) → GoesOn start now d m draft change stamp done more
    → IsGivenUp start now d m change
none_given start now d m draft change stamp done more goes = record { stands = goes.stands; aside = goes.aside; few = goes.few }

pub puts_stopped : (start now : Told) (d : Accessed) (m : Minidisk) (draft : Draft) (change : Change) (stamp : Stamp) (done more : List (List ℕ)) (s t : Reader) (xs ys : List ℕ)
    (why : FileFault) → PutsSo start now d m draft change stamp done more s xs (Err why) → PutsSo start now d m draft change stamp done more t ys (Err why)
puts_stopped start now d m draft change stamp done more s t xs ys (fault.Form why) p = p
puts_stopped start now d m draft change stamp done more s t xs ys fault.Changed p = p
puts_stopped start now d m draft change stamp done more s t xs ys (fault.Fault why) p = p
