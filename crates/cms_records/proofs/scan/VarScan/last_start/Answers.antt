use Rattle.std.proofs.Common.{◌≡◌, ◌<◌, ◌∙◌, ℕ, List, Ok, ap, subst, arith}
use Rattle.cms_model.specs.Records.{varying}
use Rattle.cms_records.specs.Starts.{begins, last_start, start_in}
use Rattle.cms_records.specs.Scans.{VarScan, IsFed, filled_by}
use Rattle.cms_records.proofs.Scans.{starts_well}
use Rattle.cms_records.proofs.scan.VarScan.last_start.Goals as goal

abbrev Told : ℕ → VarScan → Type 0
Told r s = (count : ℕ) (bytes : List ℕ) (records : List (List ℕ)) → IsFed count bytes s → varying s.bsize count 0 bytes ≡ Ok records
    → r ≡ last_start s.bsize (filled_by records) (begins 0 records)

pub returns : goal.returns
returns c =
    let v = c.self.inside in
    let size : c.bytes-bsize.result ≡ v.bsize = c.bytes-bsize.ensures.value in
    let wide : 0 < v.bsize = omega (arith, c.bytes-bsize.ensures.least, size) in
    let is : c.start_in.result ≡ start_in v.bsize v.place v.first = c.start_in.ensures ∙ ap (λ (b : ℕ). start_in b v.place v.first) size in
    subst (Told c.start_in.result) c.self.view_is (λ count bytes records fed read. is ∙ starts_well count bytes _ records wide fed read)
