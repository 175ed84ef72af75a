-- What follows for objects.
use Rattle.std.specs.Prelude.{◌≡◌, ◌≢◌, ℕ, true, List, [], ◌∷◌, Some, slice_get, ⊤}
use Rattle.cms_journal.specs.declared.event.Event.{Event}
use Rattle.cms_model.specs.Acts.{Act}
use Rattle.cms_model.specs.Objects.{Back, Object, Reply}
use Rattle.cms_model.specs.Points.{Point, beside}
use Rattle.cms_model.specs.Beats.{Deed, Said, Turned, Took, Did, Asked, Dropped, Beat, Beats, backs, Chain}
use Rattle.cms_model.specs.Runs.{Ran, Broke}

-- no object stands under the word
abbrev pub IsGone : List ℕ → List Object → Type 0
IsGone word [] = ⊤
IsGone word (o ∷ os) = (o.word ≢ word) × IsGone word os

-- the deed asks no object under the word
abbrev pub AsksNot : List ℕ → Deed → Type 0
AsksNot word (Asked n o r b) = o.word ≢ word
AsksNot word (Said b) = ⊤
AsksNot word (Turned m) = ⊤
AsksNot word (Took i) = ⊤
AsksNot word (Did s o) = ⊤
AsksNot word (Dropped n) = ⊤

-- none of these beats asks the object of this word
abbrev pub AskNot : List ℕ → List Beat → Type 0
AskNot word [] = ⊤
AskNot word (b ∷ bs) = AsksNot word b.deed × AskNot word bs

-- where no object stands under a word none is asked under it any more, and none comes back
abbrev pub AskedNoMore : Type 0
AskedNoMore =
    (word : List ℕ) (p q : Point) (bs : List Beat) → Chain p bs q → IsGone word p.objects → AskNot word bs × IsGone word q.objects

-- no two stand under one word
abbrev pub AreDistinct : List Object → Type 0
AreDistinct [] = ⊤
AreDistinct (o ∷ os) = IsGone o.word os × AreDistinct os

-- so they stay, and behind the dropping of one none stands under its word
abbrev pub StayDistinct : Type 0
StayDistinct = (p q : Point) (bs : List Beat) → Chain p bs q → AreDistinct p.objects → AreDistinct q.objects

-- no object stands under the word of one that was dropped
abbrev pub DroppedIsGone : Type 0
DroppedIsGone =
    (p m : Point) (n : ℕ) (o : Object) (piece : List Event) → Beats p (record { deed = Dropped n; piece = piece }) m
    → slice_get p.objects n ≡ Some o → AreDistinct p.objects → IsGone o.word m.objects

-- the object in this place holds what came back, and is else the one that was asked
pub record Holds (objects : List Object) (n : ℕ) (asked : Object) (back : Back) : Type 0 where
  pub now : Object
  pub there : slice_get objects n ≡ Some now
  pub word : now.word ≡ asked.word
  pub does : now.does ≡ asked.does
  pub content : now.content ≡ back.content

-- one that is asked stands in its place, and its test holds of what comes back, which it then holds
pub record Answers (p m : Point) (n : ℕ) (o : Object) (reply : Reply) (back : Back) : Type 0 where
  pub there : slice_get p.objects n ≡ Some o
  pub may : o.does o.content reply back.want back.content ≡ true
  pub behind : Holds m.objects n o back

-- so it does at each beat that asks one
abbrev pub AskedAnswers : Type 0
AskedAnswers =
    (p m : Point) (n : ℕ) (o : Object) (reply : Reply) (back : Back) (piece : List Event)
    → Beats p (record { deed = Asked n o reply back; piece = piece }) m → Answers p m n o reply back

-- from a point without objects nothing comes back, and there are none behind it
abbrev pub NoneAreAsked : Type 0
NoneAreAsked = (p q : Point) (bs : List Beat) → Chain p bs q → p.objects ≡ [] → (backs bs ≡ []) × (q.objects ≡ [])

-- a run from there is one beside any objects, which it leaves as they are; so is one that was cut off
abbrev pub RunsBeside : Type 0 → Type 0
RunsBeside R =
    (objects : List Object) (p q : Point) (t u : Act R) → Ran p q t u → p.objects ≡ []
    → Ran (beside objects p) (beside objects q) t u

-- the same of a run that was cut off
abbrev pub StopsBeside : Type 0 → Type 0
StopsBeside R =
    (objects : List Object) (p q : Point) (t : Act R) → Broke p q t → p.objects ≡ [] → Broke (beside objects p) (beside objects q) t
