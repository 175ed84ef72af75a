-- A file that is written on behind what stands of it.
use Rattle.std.proofs.Common.{◌≡◌, ◌⊎◌, ℕ, ◌+◌, ◌*◌, ◌/◌, ◌<◌, ◌≤◌, List, [], ◌++◌, length, take, drop, refl, sym, ◌∙◌, ap, subst, arith, length-append, length-drop, take_at}
use Rattle.std.proofs.lemmas.List.{drop-append-le}
use Rattle.cms_names.specs.declared.name.Format.{Format}
use Rattle.cms_names.specs.declared.name.Format.TheVariants.{F, V}
use Rattle.cms_fields.specs.Entries.{pointer_size}
use Rattle.cms_fields.specs.Limits.{most_bytes, most_records}
use Rattle.cms_fields.specs.Numbers.{up}
use Rattle.cms_model.specs.Records.{stored}
use Rattle.cms_model.specs.Sizes.{pointer_count}
use Rattle.cms_model.proofs.Quotients.{up_some}
use Rattle.cms_tree.specs.Builds.{IsBuildable}
use Rattle.cms_held.specs.Drafts.{Front, filled, mark_with, stored_on}
use Rattle.cms_held.specs.HeldVolumes.{HeldTree}
use Rattle.cms_held.specs.BegunFiles.{IsBegun, IsContinued, bytes_before}
use Rattle.cms_held.specs.BlockWriters.{IsWriter}
use Rattle.cms_held.specs.FileWriters.{FileWriter, IsDrafting, IsMarkedSo, marks_in}
use Rattle.cms_held.specs.declared.begun.Begun.{Begun}
use Rattle.cms_held.specs.declared.block_writer.BlockWriter.{BlockWriter}
use Rattle.cms_held.specs.declared.shape.DraftShape.{DraftShape}
use Rattle.cms_held.proofs.BlockWritten.{few_leaves}
use Rattle.cms_held.proofs.DraftMarks.{front_begins, front_place}
use Rattle.cms_held.proofs.FilePuts.{both_sizes, marks_long, short_blocks, stored_none}

-- its blocks
abbrev pub writer_on : ℕ → ℕ → ℕ → ℕ → HeldTree → Begun → BlockWriter
writer_on unit bsize psize size tree b = record {
  unit = unit;
  bsize = bsize;
  psize = psize;
  tree = tree;
  size = size;
  climb = b.climb;
  kept = b.kept;
  block = b.block;
  filled = b.filled;
  whole = b.kept;
  mark = b.mark;
}

-- the file
abbrev pub drafting_on : ℕ → ℕ → DraftShape → ℕ → HeldTree → Begun → FileWriter
drafting_on unit bsize shape put tree b = record {
  shape = shape;
  put = put;
  writer = writer_on unit bsize (pointer_size shape.format) shape.bytes tree b;
}

is_writer : (unit bsize psize size : ℕ) (tree : HeldTree) (b : Begun) → (psize ≡ 4) ⊎ (psize ≡ 12) → size ≤ most_bytes → length tree.leaves ≡ up size bsize
    → length tree.pointers ≡ pointer_count (bsize / psize) (length tree.leaves) → IsBegun bsize psize tree b → IsWriter (writer_on unit bsize psize size tree b)
is_writer unit bsize psize size tree b pointer few count nodes s =
    let added = s.climb_added in
    let low = s.unfilled in
    record {
      size = s.size;
      pointer = pointer;
      block = s.block;
      count = count;
      nodes = nodes;
      climb_held = s.held;
      climb_size = s.climb_size;
      climb_pointer = s.climb_pointer;
      climb_count = s.climb_count;
      climb_kept = omega arith;
      climb_added = omega arith;
      within = s.within;
      filled = omega arith;
      few = few;
    }

pub is_drafting : (unit bsize put : ℕ) (shape : DraftShape) (tree : HeldTree) (b : Begun) → shape.bytes ≤ most_bytes → shape.count ≤ most_records → put ≤ shape.count → length tree.leaves ≡ up shape.bytes bsize
    → length tree.pointers ≡ pointer_count (bsize / pointer_size shape.format) (length tree.leaves) → IsBegun bsize (pointer_size shape.format) tree b → bytes_before bsize b ≤ shape.bytes → b.mark.last ≤ put
    → IsDrafting (drafting_on unit bsize shape put tree b)
is_drafting unit bsize put shape tree b few records put_few count nodes s within begun = record {
  writer = is_writer unit bsize (pointer_size shape.format) shape.bytes tree b (both_sizes shape.format) few count nodes s;
  unfilled = s.unfilled;
  within = within;
  size = refl;
  pointer = refl;
  put_few = put_few;
  few = records;
  begun = begun;
}

-- the data block that comes next has what is in front of the records
block_on : (bsize k f : ℕ) (bytes more block : List ℕ) → length bytes ≡ k * bsize + f → block ≡ filled bsize (drop (k * bsize) bytes) → block ≡ filled bsize (take f (drop (k * bsize) (bytes ++ more)))
block_on bsize k f bytes more block long is =
    let low : k * bsize ≤ length bytes = omega arith in
    let rest : length (drop (k * bsize) bytes) ≡ f = omega (arith, length-drop (k * bsize) bytes) in
    is ∙ ap (filled bsize) (sym (ap (take f) (drop-append-le (k * bsize) bytes more low) ∙ take_at (drop (k * bsize) bytes) more f rest))

-- it has the mark that belongs to it
mark_on : (format : Format) (bsize : ℕ) (front : Front) (w : BlockWriter) (kept : ℕ) → w.bsize ≡ bsize → w.whole ≡ kept → (format ≡ V → w.mark ≡ record { last = front.count; place = front.place })
    → front.place ≡ (mark_with bsize front [] kept).place → IsMarkedSo format w front []
mark_on F bsize front w kept size whole is place = tt
mark_on V bsize front w kept size whole is place =
    let none : front.count ≡ front.count + 0 = omega arith in
    is refl ∙ ap (λ (n : ℕ). record { last = n; place = front.place }) none
    ∙ ap (λ (n : ℕ). record { last = front.count + 0; place = n }) (place ∙ ap (λ (n : ℕ). (mark_with n front [] kept).place) (sym size) ∙ ap (λ (n : ℕ). (mark_with w.bsize front [] n).place) (sym whole))

pub continued : (unit bsize put : ℕ) (shape : DraftShape) (tree : HeldTree) (b : Begun) → 1 ≤ shape.bytes → shape.bytes ≤ most_bytes → length tree.leaves ≡ up shape.bytes bsize
    → length tree.pointers ≡ pointer_count (bsize / pointer_size shape.format) (length tree.leaves) → IsBegun bsize (pointer_size shape.format) tree b
    → IsContinued unit bsize put shape tree b (drafting_on unit bsize shape put tree b)
continued unit bsize put shape tree b some few count nodes s = record {
  shape_is = refl;
  unit_is = refl;
  bsize_is = refl;
  tree_is = refl;
  kept = refl;
  put_is = refl;
  came_is = refl;
  drafts = λ front records is f h. record {
    put = let none : put ≡ front.count + 0 = omega arith in none;
    count = sym h.count;
    streams = record {
      climbs = f.climbs (marks_in d front records) (plan front records);
      keeps = f.keeps;
      kept = omega arith;
      added = s.climb_added;
      size = h.bytes;
      block = block_on bsize b.kept b.filled front.bytes (stored shape.format records) b.block.items f.size f.block;
    };
    came_is = came_on front f.size;
    begins = front_begins bsize b.kept b.filled front f.size s.unfilled f.place;
    mark = mark_on shape.format bsize front d.writer b.kept refl refl f.mark (front_place bsize b.kept b.filled front f.size s.unfilled f.place);
    each = h.each;
  };
}
  where
    d : FileWriter
    d = drafting_on unit bsize shape put tree b

    came_on : (front : Front) → length front.bytes ≡ bytes_before bsize b → bytes_before bsize b ≡ length (stored_on shape.format front [])
    came_on front long =
        let none = stored_none shape.format in
        let both = length-append front.bytes (stored shape.format []) in omega arith

    few_of : length tree.leaves ≤ most_bytes
    few_of = few_leaves d.writer (is_writer unit bsize (pointer_size shape.format) shape.bytes tree b (both_sizes shape.format) few count nodes s)

    plan : (front : Front) (records : List (List ℕ)) → IsBuildable bsize (pointer_size shape.format) tree.leaves (marks_in d front records) tree.pointers
    plan front records = record {
      size = s.size;
      pointer = both_sizes shape.format;
      some = subst (λ (m : ℕ). 0 < m) (sym count) (up_some shape.bytes bsize (short_blocks bsize s.size).0 some);
      few = let short = few_of in omega arith;
      each = λ wide. marks_long shape.format bsize front records (length tree.leaves) wide;
      numbers = nodes;
    }

-- ---- by the bytes of its pointers

-- the file, where these are told
abbrev pub drafting_by : ℕ → ℕ → ℕ → DraftShape → ℕ → HeldTree → Begun → FileWriter
drafting_by unit bsize psize shape put tree b = record { shape = shape; put = put; writer = writer_on unit bsize psize shape.bytes tree b }

pub drafting_sound : (unit bsize psize put : ℕ) (shape : DraftShape) (tree : HeldTree) (b : Begun) → psize ≡ pointer_size shape.format → shape.bytes ≤ most_bytes → shape.count ≤ most_records → put ≤ shape.count
    → length tree.leaves ≡ up shape.bytes bsize → length tree.pointers ≡ pointer_count (bsize / pointer_size shape.format) (length tree.leaves) → IsBegun bsize (pointer_size shape.format) tree b
    → bytes_before bsize b ≤ shape.bytes → b.mark.last ≤ put → IsDrafting (drafting_by unit bsize psize shape put tree b)
drafting_sound unit bsize psize put shape tree b is few records put_few count nodes s within begun =
    subst (λ (p : ℕ). IsDrafting (drafting_by unit bsize p shape put tree b)) (sym is) (is_drafting unit bsize put shape tree b few records put_few count nodes s within begun)

pub continued_by : (unit bsize psize put : ℕ) (shape : DraftShape) (tree : HeldTree) (b : Begun) → psize ≡ pointer_size shape.format → 1 ≤ shape.bytes → shape.bytes ≤ most_bytes → length tree.leaves ≡ up shape.bytes bsize
    → length tree.pointers ≡ pointer_count (bsize / pointer_size shape.format) (length tree.leaves) → IsBegun bsize (pointer_size shape.format) tree b
    → IsContinued unit bsize put shape tree b (drafting_by unit bsize psize shape put tree b)
continued_by unit bsize psize put shape tree b is some few count nodes s =
    subst (λ (p : ℕ). IsContinued unit bsize put shape tree b (drafting_by unit bsize p shape put tree b)) (sym is) (continued unit bsize put shape tree b some few count nodes s)
