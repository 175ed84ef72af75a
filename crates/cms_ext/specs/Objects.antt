-- The extensions of a list, as the machine's objects.
use Rattle.std.specs.Prelude.{◌≡◌, ℕ, ◌<◌, List, length, map, Option, Some, position, set, slice_get, Result}
use Rattle.std.specs.Global.{Global}
use Rattle.std.specs.Str.{bytes_eq}
use Rattle.std.specs.declared.alloc.AllocError.{AllocError}
use Rattle.std.specs.declared.dyn_box.DynBox.{DynBox}
use Rattle.cms_model.specs.Objects.{Content, Object}
use Rattle.cms_ext.specs.Replies.{Answers}
use Rattle.cms_ext.specs.declared.extension.ExtReply.{ExtReply}
use Rattle.cms_ext.specs.declared.extension.ExtWant.{ExtWant}
use Rattle.cms_ext.specs.declared.extension.Extension.{Ghosts}
use Rattle.cms_ext.specs.declared.list.ExtList.{ExtList}

-- what the code of a box says of the object in it: its content, and what it may do
abbrev pub Means : (X : Type 0) → (X → Type 0) → Type 1
Means X T = (k : X) → Ghosts (T k)

-- the object of a box under a word
abbrev pub object_under : {X : Type 0} {T : X → Type 0}
    → Means X T → List ℕ → (k : X) → T k → Object
object_under means word k value = record {
  word = word;
  does = (means k).does;
  content = (means k).content value;
}

-- the object of this box: its code says what the value in it means
abbrev pub object_in : {X : Type 0} {T : X → Type 0}
    → Means X T → List ℕ → DynBox X Global T → Object
object_in means word b = object_under means word b.vtable b.value

-- the objects of a list, in its order
abbrev pub objects_of : {X : Type 0} {T : X → Type 0} → Means X T → ExtList X T → List Object
objects_of means l = map (λ s. object_in means s.word s.object) l.seats.items

-- their words
abbrev pub words_of : List Object → List (List ℕ)
words_of objects = map (λ o. o.word) objects

-- the place of the object under a word
abbrev pub place_of : List ℕ → List Object → Option ℕ
place_of word objects = position (λ o. bytes_eq word o.word) objects

-- there is an object in the place
abbrev pub HasPlace : ℕ → List Object → Type 0
HasPlace place objects = place < length objects

-- the object in a place was asked, and no other changed
pub record AnswersAt (old : List Object) (place : ℕ) (reply : ExtReply) (new : List Object)
    (result : Result ExtWant AllocError) : Type 0 where
  pub object : Object
  pub there : slice_get old place ≡ Some object
  pub after : Content
  pub answers : Answers object.does object.content reply after result
  pub others : new ≡ set old place (record object { content = after })
