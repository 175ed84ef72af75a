use Rattle.std.proofs.Common.{rules, ◌≡◌, ℕ, List, Ok, Err, Result, sym, subst}
use Rattle.cms_model.specs.declared.fault.VarFault.{VarFault}
use Rattle.cms_model.specs.declared.fault.VarFault.TheVariants.{PastEnd, Left}
use Rattle.cms_records.specs.declared.sizes.VarSizes.{VarSizes}
use Rattle.cms_records.specs.Scans.{VarScan, IsFed, sizes_in}
use Rattle.cms_records.proofs.Scans.{ends_past, ends_left, ends_well}
use Rattle.cms_records.proofs.scan.VarScan.end.Goals as goal

abbrev Told : VarScan → Result VarSizes VarFault → Type 0
Told s r = (count : ℕ) (bytes : List ℕ) → IsFed count bytes s → r ≡ sizes_in s.bsize count bytes

pub returns-then-self-gt0-clause-told : goal.returns-then-self-gt0-clause-told
returns-then-self-gt0-clause-told c =
    subst (λ (s : VarScan). Told s (Err (PastEnd c.self.inside.place))) c.self.view_is (λ count bytes fed. sym (ends_past count bytes _ fed (search rules)))

pub returns-then-self-bytes-clause-told : goal.returns-then-self-bytes-clause-told
returns-then-self-bytes-clause-told c =
    subst (λ (s : VarScan). Told s (Err (Left c.self.inside.place))) c.self.view_is (λ count bytes fed. sym (ends_left count bytes _ fed (search rules) (search rules)))

pub returns-clause-told : goal.returns-clause-told
returns-clause-told c =
    subst (λ (s : VarScan). Told s (Ok (record { longest = c.self.inside.longest; stored = c.self.inside.place }))) c.self.view_is
    (λ count bytes fed. sym (ends_well count bytes _ fed (search rules) (search rules)))
