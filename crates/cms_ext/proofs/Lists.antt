-- What a list's items are seen as, and words that differ.
use Rattle.std.proofs.Common.{◌≡◌, ◌∙◌, ℕ, zero, suc, ◌+◌, ◌<◌, arith, List, [], ◌∷◌, ◌++◌, map, Result, Err, refl, sym, ap, ap₂, subst}
use Rattle.std.specs.Prelude.{Bool, true, false, cond, ◌||◌, nat_lt, is_some, if◌then◌else◌, not, position, remove, length, take, drop, set, get_or, Option, Some, None, slice_get}
use Rattle.std.specs.Cmp.Lexicographic.{nat_list_eq_equiv}
use Rattle.std.specs.List.{AllByRecursion, IsDistinct, list_any, prefix_len, drop-map}
use Rattle.std.specs.Option.{option_map}
use Rattle.std.specs.Str.{bytes_eq}
use Rattle.std.specs.declared.alloc.AllocError.{AllocError}
use Rattle.std.proofs.lemmas.Bool.Decides.{nat_tests}
use Rattle.std.proofs.lemmas.List.{length-append, length-map, map-append, map-set, set-get_or, take-map}
use Rattle.std.proofs.lemmas.Map.Keys.{IsDistinct-cons, IsDistinct-head, IsDistinct-push, IsDistinct-tail}
use Rattle.std.proofs.lemmas.List.Edits.{length-remove}
use Rattle.std.proofs.lemmas.Option.{get_or_from_slice_get, slice_get-map, slice_get_read}
use Rattle.std.proofs.lemmas.Slice.Eq.{bytes_eq-Decides}
use Rattle.cms_model.specs.LawsObjects.{AreDistinct, IsGone}
use Rattle.cms_model.specs.Objects.{Object}
use Rattle.cms_search.proofs.Released.{position_map}
use Rattle.cms_ext.specs.Objects.{AnswersAt, HasPlace, Means, object_in, objects_of, place_of, words_of}
use Rattle.cms_ext.specs.Replies.{Answers}
use Rattle.cms_ext.specs.declared.extension.ExtReply.{ExtReply}
use Rattle.cms_ext.specs.declared.extension.ExtWant.{ExtWant}
use Rattle.cms_ext.specs.declared.list.ExtList.{ExtList}

pub map-remove : {X Y : Type 0} (f : X → Y) (place : ℕ) (xs : List X) → map f (remove xs place) ≡ remove (map f xs) place
map-remove f place xs =
    map-append f (take place xs) (drop (suc place) xs)
    ∙ (ap (λ ys. ys ++ map f (drop (suc place) xs)) (sym (take-map f place xs))
    ∙ ap (λ ys. take place (map f xs) ++ ys) (sym (drop-map f (suc place) xs)))

-- the item in a place that there is
pub there : {A B : Type 0} (f : A → B) (xs : List A) (place : ℕ) (x : A) → place < length xs → x ≡ get_or xs place x
    → slice_get (map f xs) place ≡ Some (f x)
there f xs place x within is =
    slice_get-map f xs place ∙ ap (option_map f) (slice_get_read xs (length xs) place x refl within is)

-- an object of a list was asked: seats are seen as objects, and the one in the place is another then, under its word and with its test
pub asked : {S : Type 0} (seen : S → Object) (seats : List S) (place : ℕ) (seat new : S) {reply : ExtReply}
    {result : Result ExtWant AllocError} → place < length (map seen seats) → seat ≡ get_or seats place seat
    → (seen new).word ≡ (seen seat).word → (seen new).does ≡ (seen seat).does
    → Answers (seen seat).does (seen seat).content reply (seen new).content result
    → AnswersAt (map seen seats) place reply (map seen (set seats place new)) result
asked seen seats place seat new within is word does answers = record {
  object = seen seat;
  there = there seen seats place seat (subst (λ n. place < n) (length-map seats seen) within) is;
  after = (seen new).content;
  answers = answers;
  others = map-set seen seats place new
      ∙ ap₂ (λ w d. set (map seen seats) place (record { word = w; does = d; content = (seen new).content })) word does;
}

-- ---- words

-- a seat whose word is the same leaves the words
pub words_set : {S W : Type 0} (f : S → W) (xs : List S) (place : ℕ) (old new : S) → old ≡ get_or xs place old → f new ≡ f old
    → map f (set xs place new) ≡ map f xs
words_set f xs place old new is same =
    map-set f xs place new
    ∙ (ap (λ w. set (map f xs) place w) same
    ∙ (sym (map-set f xs place old) ∙ ap (λ x. map f (set xs place x)) is
    ∙ ap (map f) (set-get_or xs place old)))

none_first : (b : Bool) (x : ℕ) (o : Option ℕ) → cond b (Some x) o ≡ None → b ≡ false
none_first true x o e = absurd (cc e)
none_first false x o e = refl

less_before : (k n : ℕ) → nat_lt (1 + k) (suc n) ≡ false → nat_lt k n ≡ false
less_before k n e = grind (arith, nat_tests)

some_less : (n : ℕ) → nat_lt 0 (suc n) ≡ true
some_less n = grind (arith, nat_tests)

-- where no item passes none is one that does
passes_none : {A : Type 0} (p : A → Bool) (xs : List A) → nat_lt (prefix_len (λ x. not (p x)) xs) (length xs) ≡ false → list_any p xs ≡ false
passes_none p [] e = refl
passes_none p (x ∷ xs) e = cases (p x) (λ rest. passes_none p xs rest) e
  where
    cases : (b : Bool) → (nat_lt (prefix_len (λ x. not (p x)) xs) (length xs) ≡ false → list_any p xs ≡ false)
        → nat_lt (cond (not b) (1 + prefix_len (λ x. not (p x)) xs) 0) (suc (length xs)) ≡ false → b || list_any p xs ≡ false
    cases true rest e = absurd (cc (sym (some_less (length xs)) ∙ e))
    cases false rest e = rest (less_before (prefix_len (λ x. not (p x)) xs) (length xs) e)

pub none_passes : {A : Type 0} (p : A → Bool) (xs : List A) → position p xs ≡ None → list_any p xs ≡ false
none_passes p xs none = passes_none p xs (none_first _ _ None none)

-- behind words that differ a new one
pub differ_push : (ws : List (List ℕ)) (word : List ℕ) → IsDistinct bytes_eq ws → position (λ w. bytes_eq word w) ws ≡ None
    → IsDistinct bytes_eq (ws ++ word ∷ [])
differ_push ws word differ none = IsDistinct-push nat_list_eq_equiv ws word differ (none_passes (λ w. bytes_eq word w) ws none)

all_without : {A : Type 0} (P : A → Type 0) (xs : List A) (place : ℕ) → AllByRecursion P xs → AllByRecursion P (remove xs place)
all_without P [] zero all = tt
all_without P [] (suc place) all = tt
all_without P (x ∷ xs) zero all = all.1
all_without P (x ∷ xs) (suc place) all = (all.0, all_without P xs place all.1)

-- without one of them they differ still
pub differ_remove : (ws : List (List ℕ)) (place : ℕ) → IsDistinct bytes_eq ws → IsDistinct bytes_eq (remove ws place)
differ_remove [] zero differ = differ
differ_remove [] (suc place) differ = differ
differ_remove (w ∷ ws) zero differ = IsDistinct-tail bytes_eq w ws differ
differ_remove (w ∷ ws) (suc place) differ =
    IsDistinct-cons bytes_eq w (remove ws place) (all_without (λ y. bytes_eq w y ≡ false) ws place (IsDistinct-head bytes_eq w ws differ))
    (differ_remove ws place (IsDistinct-tail bytes_eq w ws differ))

-- ---- distinct objects

gone_from : (word : List ℕ) (os : List Object) → AllByRecursion (λ y. bytes_eq word y ≡ false) (words_of os) → IsGone word os
gone_from word [] all = tt
gone_from word (o ∷ os) all =
    (λ same. cc (sym ((bytes_eq-Decides word o.word).1 (sym same)) ∙ all.0), gone_from word os all.1)

-- objects under words that differ are distinct
pub distinct : (os : List Object) → IsDistinct bytes_eq (words_of os) → AreDistinct os
distinct [] differ = tt
distinct (o ∷ os) differ = (
  gone_from o.word os (IsDistinct-head bytes_eq o.word (words_of os) differ),
  distinct os (IsDistinct-tail bytes_eq o.word (words_of os) differ),
)

-- ---- the seats of a list, each seen as an object

module _ {S : Type 0} (seen : S → Object) where
  words_place : (xs : List S) (word : List ℕ)
      → position (λ w. bytes_eq word w) (map (λ s. (seen s).word) xs) ≡ place_of word (map seen xs)
  words_place xs word =
      position_map (λ s. (seen s).word) (λ w. bytes_eq word w) xs
      ∙ sym (position_map seen (λ o. bytes_eq word o.word) xs)

  -- a word was found
  pub found : (xs ys : List S) (word : List ℕ) (r o : Option ℕ) → r ≡ position (λ s. bytes_eq word (seen s).word) ys → ys ≡ xs
      → r ≡ o → o ≡ place_of word (map seen xs)
  found xs ys word r o is same came =
      sym came ∙ (is ∙ (ap (position (λ s. bytes_eq word (seen s).word)) same
      ∙ sym (position_map seen (λ p. bytes_eq word p.word) xs)))

  -- the word in a place
  pub word_there : (xs : List S) (place : ℕ) (x : S) → HasPlace place (map seen xs) → x ≡ get_or xs place x
      → slice_get (words_of (map seen xs)) place ≡ Some (seen x).word
  word_there xs place x within is =
      slice_get-map (λ o. o.word) (map seen xs) place
      ∙ ap (option_map (λ o. o.word)) (there seen xs place x (subst (λ n. place < n) (length-map xs seen) within) is)

  -- one more, or none
  pub pushed : (xs ys : List S) (x : S) (b : Bool) (o : Option ℕ) → ys ≡ (if b then xs ++ x ∷ [] else xs)
      → o ≡ place_of (seen x).word (map seen xs) → false ≡ is_some o → IsDistinct bytes_eq (map (λ s. (seen s).word) xs)
      → IsDistinct bytes_eq (map (λ s. (seen s).word) ys)
  pushed xs ys x false o are found none differ = rw are differ
  pushed xs ys x true None are found none differ =
      rw are (subst (IsDistinct bytes_eq) (sym (map-append (λ s. (seen s).word) xs (x ∷ [])))
      (differ_push (map (λ s. (seen s).word) xs) (seen x).word differ (words_place xs (seen x).word ∙ sym found)))
  pushed xs ys x true (Some k) are found none differ = absurd (cc none)

pub few_pushed : {S : Type 0} (xs ys : List S) (x : S) (b : Bool) → ys ≡ (if b then xs ++ x ∷ [] else xs) → length xs < 4294967295
    → length ys < 4294967296
few_pushed xs ys x false are few = rw are (omega (arith, few))
few_pushed xs ys x true are few = let more = length-append xs (x ∷ []) in rw are (omega (arith, few, more))

pub few_removed : {S : Type 0} (xs ys : List S) (place : ℕ) → ys ≡ remove xs place → place < length xs → length xs < 4294967296
    → length ys < 4294967296
few_removed xs ys place are within few = let less = length-remove xs place within in rw are (omega (arith, few, less))

pub differ_none : IsDistinct bytes_eq []
unfolding IsDistinct
differ_none = tt

-- ---- lists of objects that were asked

-- the words stay
pub words_kept : (old : List Object) (place : ℕ) (reply : ExtReply) (new : List Object) (r : Result ExtWant AllocError)
    → AnswersAt old place reply new r → words_of new ≡ words_of old
words_kept old place reply new r a =
    ap words_of a.others
    ∙ words_set (λ o. o.word) old place a.object (record a.object { content = a.after }) (sym (get_or_from_slice_get old place a.object a.object a.there)) refl

-- without memory all stays
pub objects_kept : (old : List Object) (place : ℕ) (reply : ExtReply) (new : List Object) (e : AllocError)
    → AnswersAt old place reply new (Err e) → new ≡ old
objects_kept old place reply new e a =
    a.others
    ∙ (ap (λ content. set old place (record a.object { content = content })) a.answers.kept
    ∙ (ap (set old place) (sym (get_or_from_slice_get old place a.object a.object a.there)) ∙ set-get_or old place a.object))

-- a place that there is stays
pub place_kept : (place : ℕ) (old new : List Object) → words_of new ≡ words_of old → HasPlace place old → HasPlace place new
place_kept place old new same there =
    subst (λ n. place < n)
    (sym (length-map old (λ o. o.word)) ∙ (ap length (sym same) ∙ length-map new (λ o. o.word))) there

-- ---- lines

-- ---- the objects of a list

words_seen : {S : Type 0} (seen : S → Object) (xs : List S) → words_of (map seen xs) ≡ map (λ s. (seen s).word) xs
words_seen seen [] = refl
words_seen seen (x ∷ xs) = ap (λ ws. (seen x).word ∷ ws) (words_seen seen xs)

-- no two stand under one word
pub list_distinct : {X : Type 0} {T : X → Type 0} (means : Means X T) (l : ExtList X T) → AreDistinct (objects_of means l)
list_distinct means l =
    distinct (objects_of means l)
    (subst (IsDistinct bytes_eq) (sym (words_seen (λ s. object_in means s.word s.object) l.seats.items)) l.differ)
