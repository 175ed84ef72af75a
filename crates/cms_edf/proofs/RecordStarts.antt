-- Where records begin in the data block that they fill in part.
use Rattle.std.proofs.Common.{◌≡◌, ◌≢◌, ⊎_elim, ℕ, zero, suc, ◌+◌, ◌-◌, ◌*◌, ◌/◌, ◌%◌, ◌<◌, ◌≤◌, Bool, true, false, cond, List, [], ◌∷◌, length, map, Option, Some, Ok, refl, sym, ◌∙◌, ap, subst, arith, length-append, div-add-mod', mod-lt, mul-le-mul_right}
use Rattle.std.specs.Prelude.{◌&&◌, nat_le, nat_lt, find}
use Rattle.std.specs.List.{concat}
use Rattle.std.specs.Option.{option_map_or}
use Rattle.std.proofs.lemmas.Bool.{cases_eq, cases_lt}
use Rattle.std.proofs.lemmas.Bool.Decides.{nat_tests}
use Rattle.std.proofs.lemmas.List.Elements.{All-nil}
use Rattle.cms_names.specs.declared.name.Format.TheVariants.{V}
use Rattle.cms_model.specs.Records.{stored, varying, with_length}
use Rattle.cms_model.proofs.Records.{length-with_length}
use Rattle.cms_records.specs.Scans.{IsFed, VarScan, filled_by}
use Rattle.cms_records.specs.Starts.{begins, last_start}
use Rattle.cms_held.specs.Drafts.{no_front}
use Rattle.cms_held.specs.Marks.{nowhere, start_of, starts_from}
use Rattle.cms_held.proofs.DraftMarks.{place_past}

-- where they fill whole blocks, none begins behind them
pub none_starts : (bsize bytes total : ℕ) (records : List (List ℕ)) → bytes ≡ bsize → total % bytes ≡ 0 → total ≡ filled_by records → nowhere ≡ start_of bsize V records
none_starts bsize bytes total records same whole is =
    let s = length (stored V records) in
    let even : s % bsize ≡ 0 = ap (λ (n : ℕ). n % bsize) (sym is) ∙ (ap (λ (b : ℕ). total % b) (sym same) ∙ whole) in
    let split : s / bsize * bsize + s % bsize ≡ s = div-add-mod' s bsize in
    sym (place_past bsize (s / bsize) no_front records (All-nil (λ (place : ℕ). place < 0)) (omega arith))

same_find : (low end p : ℕ) (xs : List (List ℕ)) → p + length (stored V xs) ≤ end
    → find (λ place. nat_le low place) (begins p xs) ≡ find (λ place. nat_le low place && nat_lt place end) (starts_from p xs)
unfolding begins
same_find low end p [] high = refl
same_find low end p (x ∷ xs) high =
    let long = length-append (with_length x) (concat (map with_length xs)) in
    let head = length-with_length x in
    let here : nat_lt p end ≡ true = grind (arith, nat_tests) in
    let more = same_find low end (p + (2 + length x)) xs (omega arith) in
    step (nat_le low p) (nat_lt p end) (find (λ place. nat_le low place) (begins (p + (2 + length x)) xs))
    (find (λ place. nat_le low place && nat_lt place end) (starts_from (p + (2 + length x)) xs)) here more
  where
    step : (a b : Bool) (r s : Option ℕ) → b ≡ true → r ≡ s → cond a (Some p) r ≡ cond (a && b) (Some p) s
    step true b r s is same = ap (λ (c : Bool). cond c (Some p) s) (sym is)
    step false b r s is same = same

-- a quotient is told by its remainder
pub same_quotient : (b q k n r m : ℕ) → q * b + r ≡ n → r < b → k * b + m ≡ n → m < b → q ≡ k
same_quotient b q k n r m one r_less two m_less = ⊎_elim
    (λ (less : q < k). let wide : suc q * b ≤ k * b = mul-le-mul_right b less in absurd (omega arith))
    (λ (ge : k ≤ q). ⊎_elim
    (λ (less : k < q). let wide : suc k * b ≤ q * b = mul-le-mul_right b less in absurd (omega arith))
    (λ (le : q ≤ k). omega arith)
    (cases_lt k q))
    (cases_lt q k)

-- where they don't, the last data block that they fill is the one that they fill in part
pub last_starts : (bsize : ℕ) (records : List (List ℕ)) → 1 ≤ bsize → (filled_by records % bsize ≡ 0 → ⊥) → last_start bsize (filled_by records) (begins 0 records) ≡ start_of bsize V records
last_starts bsize records some part =
    let s = length (stored V records) in
    let k = s / bsize in
    let m = s % bsize in
    let split : k * bsize + m ≡ s = div-add-mod' s bsize in
    let less : m < bsize = mod-lt s some in
    let any : 1 ≤ m = ⊎_elim (λ (none : m ≡ 0). absurd (part none)) (λ (other : m ≢ 0). pos m other) (cases_eq m 0) in
    let split' : (s - 1) / bsize * bsize + (s - 1) % bsize ≡ s - 1 = div-add-mod' (s - 1) bsize in
    let less' : (s - 1) % bsize < bsize = mod-lt (s - 1) some in
    let last : (s - 1) / bsize ≡ k = same_quotient bsize ((s - 1) / bsize) k (s - 1) ((s - 1) % bsize) (m - 1) split' less' (omega arith) (omega arith) in
    ap (λ (n : ℕ). option_map_or (λ place. place - n * bsize) (find (λ place. nat_le (n * bsize) place) (begins 0 records)) nowhere) last
    ∙ ap (λ (o : Option ℕ). option_map_or (λ place. place - k * bsize) o nowhere) (same_find (k * bsize) ((k + 1) * bsize) 0 records (omega arith))
  where
    pos : (n : ℕ) → n ≢ 0 → 1 ≤ n
    pos zero other = absurd (other refl)
    pos (suc n) other = omega arith

-- what is told of the last block
pub starts_told : (bsize bytes total start : ℕ) (scan : VarScan) → scan.bsize ≡ bsize → bytes ≡ bsize → 1 ≤ bytes → (total % bytes ≡ 0 → ⊥)
    → ((count : ℕ) (taken : List ℕ) (records : List (List ℕ)) → IsFed count taken scan → varying scan.bsize count 0 taken ≡ Ok records → start ≡ last_start scan.bsize (filled_by records) (begins 0 records))
    → (count : ℕ) (taken : List ℕ) (records : List (List ℕ)) → IsFed count taken scan → varying scan.bsize count 0 taken ≡ Ok records → total ≡ filled_by records → start ≡ start_of bsize V records
starts_told bsize bytes total start scan size same some part last count taken records fed read is =
    last count taken records fed read
    ∙ (ap (λ (b : ℕ). last_start b (filled_by records) (begins 0 records)) size
    ∙ last_starts bsize records (subst (λ (b : ℕ). 1 ≤ b) same some) (λ none. part (ap (λ (n : ℕ). n % bytes) is ∙ (ap (λ (b : ℕ). filled_by records % b) same ∙ none))))
