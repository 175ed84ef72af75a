-- The bytes of blocks, read one after another.
use Rattle.std.proofs.Common.{◌≡◌, ℕ, ◌+◌, ◌*◌, ◌<◌, ◌≤◌, List, [], ◌++◌, length, drop, slice_index, refl, sym, ◌∙◌, ap, arith, append-nil, append_assoc}
use Rattle.std.proofs.lemmas.List.{drop_all, length-append}
use Rattle.cms_model.specs.Trees.{Image, bytes_at}
use Rattle.cms_edf.proofs.MetBlocks.{front_of}

-- what was read, and what is left to read
abbrev pub Reads : Image → List ℕ → ℕ → List ℕ → Type 0
Reads image blocks k bytes = bytes_at image blocks ≡ bytes ++ bytes_at image (drop k blocks)

pub reads_first : (image : Image) (blocks : List ℕ) → Reads image blocks 0 []
reads_first image blocks = refl

pub reads_next : (image : Image) (blocks : List ℕ) (k : ℕ) (bytes block : List ℕ) → k < length blocks → block ≡ image (slice_index blocks k) → Reads image blocks k bytes
    → Reads image blocks (k + 1) (bytes ++ block)
unfolding bytes_at
reads_next image blocks k bytes block less is reads =
    reads ∙ (ap (λ (l : List ℕ). bytes ++ bytes_at image l) (front_of blocks k less)
    ∙ (ap (λ (l : List ℕ). bytes ++ (l ++ bytes_at image (drop (k + 1) blocks))) (sym is) ∙ sym (append_assoc bytes block (bytes_at image (drop (k + 1) blocks)))))

pub reads_last : (image : Image) (blocks : List ℕ) (k : ℕ) (bytes : List ℕ) → length blocks ≤ k → Reads image blocks k bytes → bytes ≡ bytes_at image blocks
unfolding bytes_at
reads_last image blocks k bytes past reads =
    sym (reads ∙ (ap (λ (l : List ℕ). bytes ++ bytes_at image l) (drop_all k blocks past) ∙ append-nil bytes))

pub size_next : (size k : ℕ) (bytes block : List ℕ) → length bytes ≡ size * k → length block ≡ size → length (bytes ++ block) ≡ size * (k + 1)
size_next size k bytes block some more = length-append bytes block ∙ omega (arith, some, more)

-- the block that is there already
pub kept_bytes : (image : Image) (old new first : List ℕ) (number origin : ℕ) → number ≡ origin → first ≡ image origin → new ≡ old ++ first → new ≡ old ++ image number
kept_bytes image old new first number origin same is grown = grown ∙ ap (λ (l : List ℕ). old ++ l) (is ∙ ap image (sym same))
