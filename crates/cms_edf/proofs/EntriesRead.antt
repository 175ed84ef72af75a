-- Entries read one after another.
use Rattle.std.proofs.Common.{◌≡◌, ℕ, suc, ◌+◌, ◌-◌, ◌*◌, ◌<◌, ◌≤◌, List, [], ◌∷◌, ◌++◌, take, drop, Result, Ok, Err, refl, ◌∙◌, ap, arith, append-nil}
use Rattle.std.proofs.lemmas.List.{drop-drop}
use Rattle.cms_fields.specs.Steps.{◌>>=◌}
use Rattle.cms_fields.specs.Entries.{entry_of}
use Rattle.cms_fields.specs.declared.entry.Entry.{Entry}
use Rattle.cms_model.specs.Lists.{cut}
use Rattle.cms_model.specs.Volumes.{as_read, blamed, entries_of}
use Rattle.cms_model.specs.declared.fault.OpenFault.{OpenFault}
use Rattle.cms_model.specs.declared.fault.OpenFault.TheVariants as failed
use Rattle.cms_held.specs.HeldVolumes.{IsFaultOf}
use Rattle.cms_edf.specs.OpeningSteps.{behind}
use Rattle.cms_edf.proofs.Faults.{fault_is}
use Rattle.cms_edf.proofs.FileTrees.{behind_more, behind_none}

-- what is left to read from a place on
abbrev pub left_at : ℕ → ℕ → List ℕ → ℕ → Result (List Entry) OpenFault
left_at bsize count bytes place = entries_of bsize (place + 2) (cut (count - place) 64 (drop (place * 64) bytes))

-- those that were read, and what is left to read
abbrev pub Comes : ℕ → ℕ → List ℕ → ℕ → List Entry → Type 0
Comes bsize count bytes place entries = entries_of bsize 2 (cut count 64 bytes) ≡ behind entries (left_at bsize count bytes place)

pub comes_first : (bsize count : ℕ) (bytes : List ℕ) → Comes bsize count bytes 0 []
comes_first bsize count bytes = let e : count - 0 ≡ count = omega arith in rw e (behind_none (entries_of bsize 2 (cut count 64 bytes)))

-- the entry at a place, and those behind it
left_one : (bsize count : ℕ) (bytes : List ℕ) (place : ℕ) → place < count
    → left_at bsize count bytes place ≡ (blamed (failed.Entry (place + 2)) (entry_of bsize (take 64 (drop (place * 64) bytes))) >>= λ entry. left_at bsize count bytes (place + 1) >>= λ more. Ok
    (as_read entry ∷ more))
unfolding entries_of cut
left_one bsize count bytes place less =
    let one : count - place ≡ suc (count - (place + 1)) = omega arith in
    let next : place + 2 + 1 ≡ place + 1 + 2 = omega arith in
    let on : place * 64 + 64 ≡ (place + 1) * 64 = omega arith in
    let behind' : drop 64 (drop (place * 64) bytes) ≡ drop ((place + 1) * 64) bytes = drop-drop 64 (place * 64) bytes ∙ ap (λ (n : ℕ). drop n bytes) on in
    rw (one, next, behind') refl

pub comes_next : (bsize count : ℕ) (bytes : List ℕ) (place : ℕ) (entries : List Entry) (entry : Entry) → place < count
    → blamed (failed.Entry (place + 2)) (entry_of bsize (take 64 (drop (place * 64) bytes))) ≡ Ok entry → Comes bsize count bytes place entries
    → Comes bsize count bytes (place + 1) (entries ++ (as_read entry ∷ []))
comes_next bsize count bytes place entries entry less is comes =
    let step : left_at bsize count bytes place ≡ (left_at bsize count bytes (place + 1) >>= λ more. Ok (as_read entry ∷ more)) =
    left_one bsize count bytes place less ∙ ap (λ (r : Result Entry OpenFault). r >>= λ e. left_at bsize count bytes (place + 1) >>= λ more. Ok (as_read e ∷ more)) is in
    comes ∙ (ap (behind entries) step ∙ behind_more entries (as_read entry) (left_at bsize count bytes (place + 1)))

pub comes_bad : (bsize count : ℕ) (bytes : List ℕ) (place : ℕ) (entries : List Entry) (why : OpenFault) → place < count
    → blamed (failed.Entry (place + 2)) (entry_of bsize (take 64 (drop (place * 64) bytes))) ≡ Err why → Comes bsize count bytes place entries → IsFaultOf (entries_of bsize 2 (cut count 64 bytes)) why
comes_bad bsize count bytes place entries why less is comes =
    let step : left_at bsize count bytes place ≡ Err why =
    left_one bsize count bytes place less ∙ ap (λ (r : Result Entry OpenFault). r >>= λ e. left_at bsize count bytes (place + 1) >>= λ more. Ok (as_read e ∷ more)) is in
    fault_is (entries_of bsize 2 (cut count 64 bytes)) why (comes ∙ ap (behind entries) step)

pub comes_last : (bsize count : ℕ) (bytes : List ℕ) (place : ℕ) (entries : List Entry) → count ≤ place → Comes bsize count bytes place entries → entries_of bsize 2 (cut count 64 bytes) ≡ Ok entries
unfolding entries_of cut
comes_last bsize count bytes place entries past comes =
    let none : count - place ≡ 0 = omega arith in
    comes ∙ (ap (λ (n : ℕ). behind entries (entries_of bsize (place + 2) (cut n 64 (drop (place * 64) bytes)))) none ∙ ap Ok (append-nil entries))
