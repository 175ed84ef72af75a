-- Columns with one blank between.
use Rattle.std.proofs.Common.{◌≡◌, ◌∙◌, List, [], ◌∷◌, ◌++◌, ℕ, ap, append_assoc}
use Rattle.cms_search.specs.Texts.{spaced}

joined : (a b d e f h i : List ℕ)
    → ((((((a ++ 64 ∷ b) ++ 64 ∷ d) ++ 64 ∷ e) ++ 64 ∷ f) ++ 64 ∷ h) ++ 64 ∷ i) ≡ a ++ 64 ∷ spaced (b ∷ d ∷ e ∷ f ∷ h ∷ i ∷ [])
joined a b d e f h i =
    append_assoc ((((a ++ 64 ∷ b) ++ 64 ∷ d) ++ 64 ∷ e) ++ 64 ∷ f) (64 ∷ h) (64 ∷ i)
    ∙ append_assoc (((a ++ 64 ∷ b) ++ 64 ∷ d) ++ 64 ∷ e) (64 ∷ f) (64 ∷ (h ++ 64 ∷ i))
    ∙ append_assoc ((a ++ 64 ∷ b) ++ 64 ∷ d) (64 ∷ e) (64 ∷ (f ++ 64 ∷ (h ++ 64 ∷ i)))
    ∙ append_assoc (a ++ 64 ∷ b) (64 ∷ d) (64 ∷ (e ++ 64 ∷ (f ++ 64 ∷ (h ++ 64 ∷ i))))
    ∙ append_assoc a (64 ∷ b) (64 ∷ (d ++ 64 ∷ (e ++ 64 ∷ (f ++ 64 ∷ (h ++ 64 ∷ i)))))

-- a line to which six columns were added, one behind another
pub columns_are : (l m n o p q r b d e f h i : List ℕ) → m ≡ l ++ 64 ∷ b → n ≡ m ++ 64 ∷ d → o ≡ n ++ 64 ∷ e → p ≡ o ++ 64 ∷ f
    → q ≡ p ++ 64 ∷ h → r ≡ q ++ 64 ∷ i → r ≡ l ++ 64 ∷ spaced (b ∷ d ∷ e ∷ f ∷ h ∷ i ∷ [])
columns_are l m n o p q r b d e f h i two three four five six seven =
    seven ∙ ap (λ (x : List ℕ). x ++ 64 ∷ i) (six ∙ ap (λ (x : List ℕ). x ++ 64 ∷ h) (five ∙ ap (λ (x : List ℕ). x ++ 64 ∷ f)
    (four ∙ ap (λ (x : List ℕ). x ++ 64 ∷ e) (three ∙ ap (λ (x : List ℕ). x ++ 64 ∷ d) two))))
    ∙ joined l b d e f h i

lines_joined : (l : List (List ℕ)) (a b d e f h i : List ℕ)
    → ((((((l ++ a ∷ []) ++ b ∷ []) ++ d ∷ []) ++ e ∷ []) ++ f ∷ []) ++ h ∷ []) ++ i ∷ [] ≡ l ++ a ∷ b ∷ d ∷ e ∷ f ∷ h ∷ i ∷ []
lines_joined l a b d e f h i =
    append_assoc (((((l ++ a ∷ []) ++ b ∷ []) ++ d ∷ []) ++ e ∷ []) ++ f ∷ []) (h ∷ []) (i ∷ [])
    ∙ append_assoc ((((l ++ a ∷ []) ++ b ∷ []) ++ d ∷ []) ++ e ∷ []) (f ∷ []) (h ∷ i ∷ [])
    ∙ append_assoc (((l ++ a ∷ []) ++ b ∷ []) ++ d ∷ []) (e ∷ []) (f ∷ h ∷ i ∷ [])
    ∙ append_assoc ((l ++ a ∷ []) ++ b ∷ []) (d ∷ []) (e ∷ f ∷ h ∷ i ∷ [])
    ∙ append_assoc (l ++ a ∷ []) (b ∷ []) (d ∷ e ∷ f ∷ h ∷ i ∷ [])
    ∙ append_assoc l (a ∷ []) (b ∷ d ∷ e ∷ f ∷ h ∷ i ∷ [])

-- lines to which seven were added, one behind another
pub lines_are : (l m n o p q r s : List (List ℕ)) (a b d e f h i : List ℕ) → m ≡ l ++ a ∷ [] → n ≡ m ++ b ∷ [] → o ≡ n ++ d ∷ []
    → p ≡ o ++ e ∷ [] → q ≡ p ++ f ∷ [] → r ≡ q ++ h ∷ [] → s ≡ r ++ i ∷ [] → s ≡ l ++ a ∷ b ∷ d ∷ e ∷ f ∷ h ∷ i ∷ []
lines_are l m n o p q r s a b d e f h i one two three four five six seven =
    seven ∙ ap (λ (x : List (List ℕ)). x ++ i ∷ []) (six ∙ ap (λ (x : List (List ℕ)). x ++ h ∷ []) (five ∙ ap (λ (x : List (List ℕ)). x ++ f ∷ [])
    (four ∙ ap (λ (x : List (List ℕ)). x ++ e ∷ []) (three ∙ ap (λ (x : List (List ℕ)). x ++ d ∷ []) (two ∙ ap (λ (x : List (List ℕ)). x ++ b ∷ []) one)))))
    ∙ lines_joined l a b d e f h i

-- a line with its key, and a value behind it
pub line_is : (before : List (List ℕ)) (k key v value : List ℕ) (after : List (List ℕ)) → after ≡ before ++ (k ++ v) ∷ [] → k ≡ key → v ≡ value
    → after ≡ before ++ (key ++ value) ∷ []
line_is before k key v value after is keyed valued =
    is ∙ ap (λ (x : List ℕ). before ++ (x ++ v) ∷ []) keyed ∙ ap (λ (x : List ℕ). before ++ (key ++ x) ∷ []) valued
