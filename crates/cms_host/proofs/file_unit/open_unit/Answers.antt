use Rattle.std.proofs.Common.{◌≡◌, ◌≤◌, ℕ, [], ◌∷◌, ◌∙◌, Ok, refl, rules, sym, subst}
use Rattle.std.proofs.Math.Nat.{min-le_right}
use Rattle.cms_journal.specs.Limits.{most_blocks}
use Rattle.cms_host.specs.Deeds.{then_done, lock_deeds, making_deeds, sharing_of}
use Rattle.cms_host.specs.declared.system.Deed.TheVariants.{Opened}
use Rattle.cms_host.specs.declared.system.Lock.{Lock}
use Rattle.cms_host.specs.declared.system.Sharing.{Sharing}
use Rattle.cms_host.proofs.Exits.{ok_at_err, went_ok, went_on}
use Rattle.cms_host.proofs.Printed.{opened_so}
use Rattle.cms_host.proofs.file_unit.open_unit.Goals as goal

pub returns-in_err-file-clause-bsize : goal.returns-in_err-file-clause-bsize
returns-in_err-file-clause-bsize g c = ok_at_err _ c.from_residual.result _ c.from_residual.ensures.1

pub returns-in_err-file-clause-blocks : goal.returns-in_err-file-clause-blocks
returns-in_err-file-clause-blocks g c = ok_at_err _ c.from_residual.result _ c.from_residual.ensures.1

pub returns-in_err-file-clause-writable : goal.returns-in_err-file-clause-writable
returns-in_err-file-clause-writable g c = ok_at_err _ c.from_residual.result _ c.from_residual.ensures.1

pub returns-in_err-file-clause-lock : goal.returns-in_err-file-clause-lock
returns-in_err-file-clause-lock g c = ok_at_err _ c.from_residual.result _ c.from_residual.ensures.1

pub returns-in_err-file-clause-lost : goal.returns-in_err-file-clause-lost
returns-in_err-file-clause-lost g c = ok_at_err _ c.from_residual.result _ c.from_residual.ensures.1

pub returns-in_err-file-clause-opened : goal.returns-in_err-file-clause-opened
returns-in_err-file-clause-opened g c = ok_at_err _ c.from_residual.result _ c.from_residual.ensures.1

pub returns-in_err-lock-clause-bsize : goal.returns-in_err-lock-clause-bsize
returns-in_err-lock-clause-bsize g c = ok_at_err _ c.from_residual-in_err-lock.result _ c.from_residual-in_err-lock.ensures.1

pub returns-in_err-lock-clause-blocks : goal.returns-in_err-lock-clause-blocks
returns-in_err-lock-clause-blocks g c = ok_at_err _ c.from_residual-in_err-lock.result _ c.from_residual-in_err-lock.ensures.1

pub returns-in_err-lock-clause-writable : goal.returns-in_err-lock-clause-writable
returns-in_err-lock-clause-writable g c = ok_at_err _ c.from_residual-in_err-lock.result _ c.from_residual-in_err-lock.ensures.1

pub returns-in_err-lock-clause-lock : goal.returns-in_err-lock-clause-lock
returns-in_err-lock-clause-lock g c = ok_at_err _ c.from_residual-in_err-lock.result _ c.from_residual-in_err-lock.ensures.1

pub returns-in_err-lock-clause-lost : goal.returns-in_err-lock-clause-lost
returns-in_err-lock-clause-lost g c = ok_at_err _ c.from_residual-in_err-lock.result _ c.from_residual-in_err-lock.ensures.1

pub returns-in_err-lock-clause-opened : goal.returns-in_err-lock-clause-opened
returns-in_err-lock-clause-opened g c = ok_at_err _ c.from_residual-in_err-lock.result _ c.from_residual-in_err-lock.ensures.1

pub returns-in-Refused-clause-bsize : goal.returns-in-Refused-clause-bsize
returns-in-Refused-clause-bsize g c = tt

pub returns-in-Refused-clause-blocks : goal.returns-in-Refused-clause-blocks
returns-in-Refused-clause-blocks g c = tt

pub returns-in-Refused-clause-writable : goal.returns-in-Refused-clause-writable
returns-in-Refused-clause-writable g c = tt

pub returns-in-Refused-clause-lock : goal.returns-in-Refused-clause-lock
returns-in-Refused-clause-lock g c = tt

pub returns-in-Refused-clause-lost : goal.returns-in-Refused-clause-lost
returns-in-Refused-clause-lost g c = tt

pub returns-in-Refused-clause-opened : goal.returns-in-Refused-clause-opened
returns-in-Refused-clause-opened g c = tt

pub returns-in_err-map_err : goal.returns-in_err-map_err
returns-in_err-map_err g c =
    let r = c.from_residual-in_err-map_err.result in
    let failed = c.from_residual-in_err-map_err.ensures.1 in
    record {
      bsize = ok_at_err _ r _ failed;
      blocks = ok_at_err _ r _ failed;
      writable = ok_at_err _ r _ failed;
      lock = ok_at_err _ r _ failed;
      lost = ok_at_err _ r _ failed;
      opened = ok_at_err _ r _ failed;
    }

pub returns-in_err-bytes : goal.returns-in_err-bytes
returns-in_err-bytes g c =
    let r = c.from_residual-in_err-bytes.result in
    let failed = c.from_residual-in_err-bytes.ensures.1 in
    record {
      bsize = ok_at_err _ r _ failed;
      blocks = ok_at_err _ r _ failed;
      writable = ok_at_err _ r _ failed;
      lock = ok_at_err _ r _ failed;
      lost = ok_at_err _ r _ failed;
      opened = ok_at_err _ r _ failed;
    }

pub whole_blocks-blocks-requires : goal.whole_blocks-blocks-requires
whole_blocks-blocks-requires g c = c.requires

pub returns : goal.returns
returns g c =
    let a = c.args in
    let told = g.S.System.told in
    let file = c.in_ok-file.file in
    let lock = c.in_ok-lock.lock in
    let opened : told c.open.new.self ≡ then_done (told a.system.now) (Opened file a.name.now ∷ []) =
    went_ok c.open.result (Ok file) file (λ (n : ℕ). told c.open.new.self ≡ then_done (told a.system.now) (Opened n a.name.now ∷ [])) refl c.in_ok-file.ensures.cases c.open.ensures in
    let locked : told c.lock.new.self ≡ then_done (told c.open.new.self) (lock_deeds file (sharing_of a.access) lock) =
    subst (λ (s : Sharing). told c.lock.new.self ≡ then_done (told c.open.new.self) (lock_deeds file s lock)) c.sharing.ensures
    (went_ok c.lock.result (Ok lock) lock (λ (l : Lock). told c.lock.new.self ≡ then_done (told c.open.new.self) (lock_deeds file c.sharing.result l)) refl c.in_ok-lock.ensures.cases c.lock.ensures) in
    let made : told c.make_blocks.new.system ≡ then_done (told c.lock.new.self) (making_deeds file a.name.now a.bsize a.access) = went_on c.make_blocks.result (Ok c.in_ok-map_err.field-0) _ _ refl c.in_ok-map_err.ensures.cases c.make_blocks.ensures in
    record {
      bsize = refl;
      blocks = subst (λ (n : ℕ). n ≤ most_blocks) (sym c.whole_blocks-blocks.ensures) (min-le_right _ most_blocks);
      writable = search rules;
      lock = c.in_default.not-Refused;
      lost = refl;
      opened = c.size.ensures ∙ opened_so (Opened file a.name.now) (lock_deeds file (sharing_of a.access) lock) (making_deeds file a.name.now a.bsize a.access) _ _ _ _ opened locked made;
    }
