-- Trees as they are built: from the data blocks upward, level by level.
use Rattle.std.specs.Prelude.{◌≡◌, ◌⊎◌, ℕ, zero, suc, ◌+◌, ◌<◌, ◌≤◌, true, List, [], ◌∷◌, ◌++◌, length, Option, None, Ok}
use Rattle.cms_fields.specs.Numbers.{is_shape}
use Rattle.cms_model.specs.Lists.{times}
use Rattle.cms_model.specs.Trees.{Image, Form, Met, pointers, is_allowed, tree}

-- block n points to the first of these, at least one: to as many as it has room for, or to all of them; the rest is left
pub record Node (form : Form) (image : Image) (n : ℕ) (ps rest : List ℕ) : Type 0 where
  pub own : List ℕ
  pub unused : List ℕ
  pub split : ps ≡ own ++ rest
  pub bytes : pointers form.fan form.stride (image n) ≡ own ++ unused
  pub some : 1 ≤ length own
  pub full : (length own ≡ form.fan) ⊎ (rest ≡ [])

-- these blocks point to those, one block after another
abbrev pub Points : Form → Image → List ℕ → List ℕ → Type 0
Points form image [] ps = ps ≡ []
Points form image (n ∷ ns) ps = (rest : List ℕ) × Node form image n ps rest × Points form image ns rest

-- each is allowed, the first where it has a fixed place only there
abbrev pub AllAllowed : ℕ → Option ℕ → List ℕ → Type 0
AllAllowed last first [] = Unit {0}
AllAllowed last first (n ∷ ns) = (is_allowed last first n ≡ true) × AllAllowed last None ns

-- so many levels of pointer blocks over these blocks, up to one root: the pointer blocks are `nodes`, bottom level first
abbrev pub Built : Form → Image → ℕ → List ℕ → ℕ → List ℕ → Type 0
Built form image zero ps root nodes = (ps ≡ root ∷ []) × (nodes ≡ [])
Built form image (suc k) ps root nodes =
    (level : List ℕ) × (more : List ℕ) × (1 < length ps) × Points form image level ps × AllAllowed form.last None level
    × (nodes ≡ level ++ more)
    × Built form image k level root more

-- a tree that is read so has these data blocks, its blocks are these and the pointer blocks, and its levels are its shape
pub record ReadsAs (form : Form) (image : Image) (k : ℕ) (first : Option ℕ) (holder root : ℕ) (leaves nodes : List ℕ) : Type 0 where
  pub met : Met
  pub is : tree form image k first holder root (length leaves) ≡ Ok met
  pub leaves_are : met.leaves ≡ leaves
  pub blocks_are : (n : ℕ) → times n met.blocks ≡ times n nodes + times n leaves
  pub shape : is_shape form.fan (length leaves) k ≡ true

-- a tree that was built over data blocks is read so
abbrev pub BuiltIsRead : Type 0
BuiltIsRead =
    (form : Form) (image : Image) (k : ℕ) (first : Option ℕ) (holder root : ℕ) (leaves nodes : List ℕ) → 1 ≤ form.fan
    → Built form image k leaves root nodes → AllAllowed form.last first leaves → ReadsAs form image k first holder root leaves nodes
