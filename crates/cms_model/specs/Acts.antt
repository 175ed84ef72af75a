-- What is done, as a tree: each answer from outside leads to the rest.
use Rattle.std.specs.Prelude.{ℕ, ℤ, List, [], ◌∷◌, ◌++◌, Option, map}
use Rattle.cms_ebcdic.specs.CodePage.{host_of}
use Rattle.cms_model.specs.Items.{Item}
use Rattle.cms_model.specs.Objects.{Back, Object, Reply}
use Rattle.cms_model.specs.Steps.{Step, Outcome}

-- Done: the result. Out: these bytes are typed. Take: the next console item is taken, or the script's end is found. Turn: a
-- turn is spent; the clock tells its seconds. Does: a device step, and its outcome. Asks: the object in this place is told a reply, and
-- something comes back. Drops: the object in this place is dropped.
pub data Act (R : Type 0) : Type 0 where
  Done : R → Act R
  Out : List ℕ → Act R → Act R
  Take : (Option Item → Act R) → Act R
  Turn : (ℤ → Act R) → Act R
  Does : Step → (Outcome → Act R) → Act R
  Asks : ℕ → Object → Reply → (Back → Act R) → Act R
  Drops : ℕ → Act R → Act R

-- one after another
abbrev pub bind : {A B : Type 0} → Act A → (A → Act B) → Act B
bind (Done a) f = f a
bind (Out b t) f = Out b (bind t f)
bind (Take k) f = Take (λ i. bind (k i) f)
bind (Turn k) f = Turn (λ m. bind (k m) f)
bind (Does s k) f = Does s (λ o. bind (k o) f)
bind (Asks n o r k) f = Asks n o r (λ b. bind (k b) f)
bind (Drops n t) f = Drops n (bind t f)

-- ---- a single thing

-- bytes are typed
abbrev pub saying : List ℕ → Act (Unit {0})
saying b = Out b (Done tt)

-- an item is taken
abbrev pub taking : Act (Option Item)
taking = Take (λ i. Done i)

-- a turn is spent, which gives the seconds
abbrev pub turning : Act ℤ
turning = Turn (λ m. Done m)

-- a step is done, which gives its outcome
abbrev pub stepping : Step → Act Outcome
stepping s = Does s (λ o. Done o)

-- ---- lines

-- a line in EBCDIC as it is typed: in ASCII, with its line feed
unfoldable pub typed_line : List ℕ → List ℕ
typed_line line = map host_of line ++ 10 ∷ []
