-- The data blocks of a directory in which some entries stand, and the blocks that have a bit in a map, one by one.
use Rattle.std.proofs.Common.{◌≡◌, ℕ, zero, suc, ◌+◌, ◌/◌, ◌<◌, ◌≤◌, Bool, true, false, cond, List, [], ◌∷◌, ◌++◌, length, map, take, get_or, All, refl, sym, ◌∙◌, ap, subst, add-one, append-nil, append_assoc, length-append, arith}
use Rattle.std.specs.Prelude.{◌==◌, ◌&&◌, ◌||◌, if◌then◌else◌, nat_le}
use Rattle.std.specs.List.{filter, list_any, range_with_len}
use Rattle.std.proofs.lemmas.Bool.{and_parts, leb-true}
use Rattle.std.proofs.lemmas.List.{length-take-le, take_more}
use Rattle.std.proofs.lemmas.List.Elements.{All-cons, All-nil, filter-append}
use Rattle.cms_model.specs.DirectoryParts.{blocks_made, blocks_with, directory_count}
use Rattle.cms_model.specs.Lists.{holds}
use Rattle.cms_map.specs.Bits.{free_blocks}
use Rattle.cms_map.specs.Touched.{AreTouched}
use Rattle.cms_held.specs.Allotments.{on_map}
use Rattle.cms_held.specs.HeldVolumes.{HeldTree}
use Rattle.cms_held.specs.MapShares.{turned, unless_none}
use Rattle.cms_held.specs.Renewals.{blocks_in}

-- ---- one more

row_more : (a k : ℕ) → range_with_len a (suc k) ≡ range_with_len a k ++ (a + k) ∷ []
row_more a zero = let e : a + 0 ≡ a = omega arith in rw e refl
row_more a (suc k) = let e : a + suc k ≡ a + 1 + k = omega arith in rw e (ap (λ (l : List ℕ). a ∷ l) (row_more (a + 1) k))

row_next : (k : ℕ) → range_with_len 0 (k + 1) ≡ range_with_len 0 k ++ k ∷ []
row_next k =
    let e : 0 + k ≡ k = omega arith in
    ap (range_with_len 0) (add-one k) ∙ (row_more 0 k ∙ ap (λ (n : ℕ). range_with_len 0 k ++ n ∷ []) e)

-- those of a list with one more at which a test gives true
passes_more : (test : ℕ → Bool) (xs ys : List ℕ) (n : ℕ) → xs ≡ ys ++ n ∷ [] → filter test xs ≡ filter test ys ++ cond (test n) (n ∷ []) []
passes_more test xs ys n is = ap (filter test) is ∙ filter-append test ys (n ∷ [])

taken_more : (test : ℕ → Bool) (xs ys : List ℕ) (n : ℕ) → xs ≡ ys ++ n ∷ [] → test n ≡ true → filter test ys ++ n ∷ [] ≡ filter test xs
taken_more test xs ys n is holding = sym (passes_more test xs ys n is ∙ ap (λ (b : Bool). filter test ys ++ cond b (n ∷ []) []) holding)

passed_more : (test : ℕ → Bool) (xs ys : List ℕ) (n : ℕ) → xs ≡ ys ++ n ∷ [] → test n ≡ false → filter test ys ≡ filter test xs
passed_more test xs ys n is missing = sym (passes_more test xs ys n is ∙ (ap (λ (b : Bool). filter test ys ++ cond b (n ∷ []) []) missing ∙ append-nil (filter test ys)))

-- ---- the data blocks of some entries

held_any : (made : List ℕ) (each block : ℕ) → list_any (λ (n : ℕ). block == n / each) made ≡ holds (map (λ (n : ℕ). n / each) made) block
unfolding holds
held_any [] each block = refl
held_any (n ∷ ns) each block = ap (λ (b : Bool). (block == n / each) || b) (held_any ns each block)

-- those below one
abbrev pub made_below : List ℕ → ℕ → ℕ → List ℕ
made_below made each k = filter (holds (map (λ n. n / each) made)) (range_with_len 0 k)

pub block_taken : (made blocks : List ℕ) (each k : ℕ) → blocks ≡ made_below made each k → list_any (λ (n : ℕ). k == n / each) made ≡ true
    → blocks ++ k ∷ [] ≡ made_below made each (k + 1)
block_taken made blocks each k is holding =
    ap (λ (l : List ℕ). l ++ k ∷ []) is
    ∙ taken_more (holds (map (λ (n : ℕ). n / each) made)) (range_with_len 0 (k + 1)) (range_with_len 0 k) k (row_next k) (sym (held_any made each k) ∙ holding)

pub block_passed : (made blocks : List ℕ) (each k : ℕ) → blocks ≡ made_below made each k → list_any (λ (n : ℕ). k == n / each) made ≡ false
    → blocks ≡ made_below made each (k + 1)
block_passed made blocks each k is missing =
    is ∙ passed_more (holds (map (λ (n : ℕ). n / each) made)) (range_with_len 0 (k + 1)) (range_with_len 0 k) k (row_next k) (sym (held_any made each k) ∙ missing)

pub blocks_all : (bsize files each count : ℕ) (made blocks : List ℕ) → each ≡ bsize / 64 → count ≡ directory_count bsize files → blocks ≡ made_below made each count
    → blocks ≡ blocks_made bsize files made
unfolding blocks_with
blocks_all bsize files each count made blocks is_each is_count is = is ∙ (λ i. made_below made (is_each i) (is_count i))

-- ---- the blocks that have a bit in a map

abbrev bit_of : ℕ → ℕ → Bool
bit_of total n = nat_le 1 n && nat_le n total

pub bit_taken : (total : ℕ) (blocks front now : List ℕ) (k : ℕ) → k < length blocks → now ≡ front ++ on_map total (take k blocks)
    → (nat_le 1 (get_or blocks k 0) && nat_le (get_or blocks k 0) total) ≡ true → now ++ get_or blocks k 0 ∷ [] ≡ front ++ on_map total (take (k + 1) blocks)
bit_taken total blocks front now k less is holding =
    let n = get_or blocks k 0 in
    ap (λ (l : List ℕ). l ++ n ∷ []) is
    ∙ (append_assoc front (on_map total (take k blocks)) (n ∷ [])
    ∙ ap (λ (l : List ℕ). front ++ l) (taken_more (bit_of total) (take (k + 1) blocks) (take k blocks) n (take_more blocks k 0 less) holding))

pub bit_passed : (total : ℕ) (blocks front now : List ℕ) (k : ℕ) → k < length blocks → now ≡ front ++ on_map total (take k blocks)
    → (nat_le 1 (get_or blocks k 0) && nat_le (get_or blocks k 0) total) ≡ false → now ≡ front ++ on_map total (take (k + 1) blocks)
bit_passed total blocks front now k less is missing =
    is ∙ ap (λ (l : List ℕ). front ++ l) (passed_more (bit_of total) (take (k + 1) blocks) (take k blocks) (get_or blocks k 0) (take_more blocks k 0 less) missing)

on_map_all : (total : ℕ) (a b c d : List ℕ) → ((on_map total a ++ on_map total b) ++ on_map total c) ++ on_map total d ≡ on_map total (a ++ (b ++ (c ++ d)))
on_map_all total a b c d =
    let p = bit_of total in
    let A = on_map total a in
    let B = on_map total b in
    let C = on_map total c in
    let D = on_map total d in
    append_assoc (A ++ B) C D
    ∙ (append_assoc A B (C ++ D)
    ∙ (ap (λ (l : List ℕ). A ++ (B ++ l)) (sym (filter-append p c d))
    ∙ (ap (λ (l : List ℕ). A ++ l) (sym (filter-append p b (c ++ d)))
    ∙ sym (filter-append p a (b ++ (c ++ d))))))

-- one list behind the other
pub on_map_joined : (total : ℕ) (a b c d none one two three four : List ℕ) → none ≡ [] → one ≡ none ++ on_map total a → two ≡ one ++ on_map total b → three ≡ two ++ on_map total c
    → four ≡ three ++ on_map total d → four ≡ on_map total (a ++ (b ++ (c ++ d)))
on_map_joined total a b c d none one two three four e0 e1 e2 e3 e4 =
    let first : one ≡ on_map total a = e1 ∙ ap (λ (l : List ℕ). l ++ on_map total a) e0 in
    let second : two ≡ on_map total a ++ on_map total b = e2 ∙ ap (λ (l : List ℕ). l ++ on_map total b) first in
    let third : three ≡ (on_map total a ++ on_map total b) ++ on_map total c = e3 ∙ ap (λ (l : List ℕ). l ++ on_map total c) second in
    e4 ∙ (ap (λ (l : List ℕ). l ++ on_map total d) third ∙ on_map_all total a b c d)

pub all_on_map : (total : ℕ) (blocks : List ℕ) → All (λ n. (1 ≤ n) × (n ≤ total)) (on_map total blocks)
all_on_map total [] = All-nil (λ (n : ℕ). (1 ≤ n) × (n ≤ total))
all_on_map total (b ∷ bs) = go (nat_le 1 b && nat_le b total) refl (all_on_map total bs)
  where
    go : (t : Bool) → (nat_le 1 b && nat_le b total) ≡ t → All (λ (n : ℕ). (1 ≤ n) × (n ≤ total)) (on_map total bs)
        → All (λ (n : ℕ). (1 ≤ n) × (n ≤ total)) (if t then b ∷ on_map total bs else on_map total bs)
    go true is rest =
        let p = and_parts (nat_le 1 b) (nat_le b total) is in
        All-cons (λ (n : ℕ). (1 ≤ n) × (n ≤ total)) b (on_map total bs) (leb-true 1 b p.0, leb-true b total p.1) rest
    go false is rest = rest

-- ---- which data blocks of the map are written

unless_some : (xs blocks : List ℕ) → 1 ≤ length xs → unless_none xs blocks ≡ blocks
unless_some [] blocks some = absurd (omega arith)
unless_some (x ∷ xs) blocks some = refl

-- where something is taken or given back
pub turned_some : (total need used : ℕ) (bits : List Bool) (lowest given : List ℕ) (old : HeldTree) → used ≤ length lowest → lowest ≡ take need (free_blocks bits) → 1 ≤ used + length given
    → on_map total (turned need bits (take used lowest) given old) ≡ on_map total (lowest ++ (given ++ (old.leaves ++ old.pointers)))
turned_some total need used bits lowest given old within low some =
    let front = length-take-le used lowest within in
    let long = length-append (take used lowest) given in
    let all : 1 ≤ length (take used lowest ++ given) = omega arith in
    ap (on_map total)
    (unless_some (take used lowest ++ given) (take need (free_blocks bits) ++ (given ++ blocks_in old)) all ∙ ap (λ (l : List ℕ). l ++ (given ++ blocks_in old)) (sym low))

none_touched : (bsize : ℕ) → AreTouched bsize [] []
none_touched bsize = record { ascend = λ k less. absurd (omega arith); each = λ n. (λ there. there, λ there. there) }

empty_of : (xs : List ℕ) → length xs ≡ 0 → xs ≡ []
empty_of [] none = refl
empty_of (x ∷ xs) none = absurd (omega arith)

-- and where nothing is
pub turned_none : (bsize total need used : ℕ) (bits : List Bool) (lowest given touched : List ℕ) (old : HeldTree) → used ≡ 0 → length given ≡ 0 → touched ≡ []
    → AreTouched bsize (on_map total (turned need bits (take used lowest) given old)) touched
turned_none bsize total need used bits lowest given touched old none no_given no_touched =
    let nil = empty_of given no_given in
    let still : on_map total (turned need bits (take used lowest) given old) ≡ [] = (λ i. on_map total (turned need bits (take (none i) lowest) (nil i) old)) in
    subst (AreTouched bsize (on_map total (turned need bits (take used lowest) given old))) (sym no_touched)
    (subst (λ (l : List ℕ). AreTouched bsize l []) (sym still) (none_touched bsize))
