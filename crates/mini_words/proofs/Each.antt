-- Words that are read one after another.
use Rattle.std.proofs.Common.{◌≡◌, ◌∙◌, Bool, ◌<◌, ◌≤◌, ℕ, ◌+◌, List, [], ◌∷◌, ◌++◌, Bor, length, get_or, map, take, drop, refl, sym, ap, ap₂, append_assoc}
use Rattle.std.specs.Prelude.{◌||◌, codes, Option, Some, None, Result, Ok, Err}
use Rattle.std.specs.List.{list_any}
use Rattle.std.specs.Str.{bytes_eq}
use Rattle.std.proofs.lemmas.List.{append-nil, at_drop_all, drop_more, get_or-map, map-append, take_all, take_more}
use Rattle.clap.specs.Words.{Text}
use Rattle.mini_words.specs.Requests.{each_of, has_input}
use Rattle.mini_words.specs.Words.{◌>>=◌}
use Rattle.mini_words.specs.declared.fault.WordFault.{WordFault}

-- values before others that are said
abbrev pub before_said : {A : Type 0} → List A → Result (List A) WordFault → Result (List A) WordFault
before_said front (Ok more) = Ok (front ++ more)
before_said front (Err e) = Err e

-- words as texts
abbrev pub texts : List (Bor Text) → List Text
texts words = map (λ s. s.now) words

pub text_at : (words : List (Bor Text)) (i : ℕ) (d : Bor Text) → i < length words → get_or (texts words) i [] ≡ (get_or words i d).now
text_at words i d inside = get_or-map (λ (s : Bor Text). s.now) words i d [] inside

-- standard input is among words as it is among their texts
pub input_among : (words : List (Bor Text)) → list_any (λ word. bytes_eq word.now (codes "-")) words ≡ has_input (texts words)
input_among [] = refl
input_among (word ∷ words) = ap (λ (b : Bool). bytes_eq word.now (codes "-") || b) (input_among words)

-- one more of a list, each as a function gives it
pub one_taken : {A B : Type 0} (f : A → B) (ys : List B) (xs : List A) (i : ℕ) (d : A) (y : B) → i < length xs → y ≡ f (get_or xs i d) → ys ≡ map f (take i xs)
    → ys ++ y ∷ [] ≡ map f (take (i + 1) xs)
one_taken {A} {B} f ys xs i d y inside is so_far =
    ap₂ (λ (front : List B) (x : B). front ++ x ∷ []) so_far is
    ∙ sym (ap (map f) (take_more xs i d inside) ∙ map-append f (take i xs) (get_or xs i d ∷ []))

map_of_map : {A B C : Type 0} (g : B → C) (f : A → B) (xs : List A) → map g (map f xs) ≡ map (λ x. g (f x)) xs
map_of_map g f [] = refl
map_of_map g f (x ∷ xs) = ap (λ (ys : List _). g (f x) ∷ ys) (map_of_map g f xs)

-- all of a list, each as a function gives it
pub all_taken : {A B C : Type 0} (g : B → C) (f : A → B) (ys : List C) (xs : List A) (i : ℕ) → length xs ≤ i → ys ≡ map (λ x. g (f x)) (take i xs) → ys ≡ map g (map f xs)
all_taken g f ys xs i all is = is ∙ ap (map (λ x. g (f x))) (take_all i xs all) ∙ sym (map_of_map g f xs)

module _ {A : Type 0} (read : Text → Option A) (fault : ℕ → WordFault) where
  no_more : (n : ℕ) → each_of read fault n [] ≡ Ok []
  unfolding each_of
  no_more n = refl

  pub all_read : (front : List A) (n i : ℕ) (ws : List Text) → length ws ≤ i → before_said front (each_of read fault n (drop i ws)) ≡ Ok front
  all_read front n i ws h = ap (before_said front) (at_drop_all (each_of read fault n) ws i h ∙ no_more n) ∙ ap Ok (append-nil front)

  nothing_before : (said : Result (List A) WordFault) → said ≡ before_said [] said
  nothing_before (Ok more) = refl
  nothing_before (Err e) = refl

  pub start : (n : ℕ) (ws : List Text) → each_of read fault n ws ≡ before_said [] (each_of read fault n (drop 0 ws))
  start n ws = nothing_before (each_of read fault n ws)

  one_more : (front : List A) (x : A) (said : Result (List A) WordFault) → before_said front (before_said (x ∷ []) said) ≡ before_said (front ++ x ∷ []) said
  one_more front x (Ok more) = ap Ok (sym (append_assoc front (x ∷ []) more))
  one_more front x (Err e) = refl

  and_more : (x : A) (said : Result (List A) WordFault) → (said >>= (λ values. Ok (x ∷ values))) ≡ before_said (x ∷ []) said
  and_more x (Ok more) = refl
  and_more x (Err e) = refl

  value_said : (n : ℕ) (word : Text) (ws : List Text) (x : A) → Some x ≡ read word → each_of read fault n (word ∷ ws) ≡ before_said (x ∷ []) (each_of read fault (n + 1) ws)
  unfolding each_of
  value_said n word ws x is = rw (← is) (and_more x (each_of read fault (n + 1) ws))

  pub goes_on : (front : List A) (n i : ℕ) (d : Text) (ws : List Text) (x : A) → i < length ws → Some x ≡ read (get_or ws i d)
      → before_said front (each_of read fault n (drop i ws)) ≡ before_said (front ++ x ∷ []) (each_of read fault (n + 1) (drop (i + 1) ws))
  goes_on front n i d ws x inside is =
      ap (λ (xs : List Text). before_said front (each_of read fault n xs)) (drop_more ws i d inside)
      ∙ ap (before_said front) (value_said n (get_or ws i d) (drop (i + 1) ws) x is)
      ∙ one_more front x (each_of read fault (n + 1) (drop (i + 1) ws))

  is_refused : (n : ℕ) (word : Text) (ws : List Text) → None ≡ read word → each_of read fault n (word ∷ ws) ≡ Err (fault n)
  unfolding each_of
  is_refused n word ws is = rw (← is) refl

  pub stops : (front : List A) (n i : ℕ) (d : Text) (ws : List Text) → i < length ws → None ≡ read (get_or ws i d)
      → before_said front (each_of read fault n (drop i ws)) ≡ Err (fault n)
  stops front n i d ws inside is =
      ap (λ (xs : List Text). before_said front (each_of read fault n xs)) (drop_more ws i d inside)
      ∙ ap (before_said front) (is_refused n (get_or ws i d) (drop (i + 1) ws) is)
