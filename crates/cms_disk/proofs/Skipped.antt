-- Records that are passed over.
use Rattle.std.proofs.Common.{◌≡◌, ℕ, zero, suc, ◌+◌, ◌-◌, ◌*◌, ◌/◌, ◌%◌, ◌≤◌, ◌<◌, List, [], ◌∷◌, ◌++◌, length, drop, Some, slice_get, refl, sym, ◌∙◌, ap, subst, arith, length-append, length-drop, div-add-mod', mul-le-mul_right}
use Rattle.std.proofs.Math.Seq.{drop-append-add}
use Rattle.std.proofs.lemmas.List.{drop-drop, drop_all}
use Rattle.std.proofs.lemmas.Nat.{div_below}
use Rattle.std.proofs.lemmas.Option.{same_Some}
use Rattle.cms_names.specs.declared.name.Name.{Name}
use Rattle.cms_names.specs.declared.name.Format.{Format}
use Rattle.cms_names.specs.declared.name.Format.TheVariants.{F}
use Rattle.cms_model.specs.Lists.{cut}
use Rattle.cms_model.specs.Trees.{Image, bytes_at}
use Rattle.cms_records.specs.Pieces.{RecordState, bytes_so_far, next_place}
use Rattle.cms_held.specs.HeldVolumes.{HeldVolume}
use Rattle.cms_edf.specs.FilesTold.{infos_in}
use Rattle.cms_edf.specs.declared.held.FileInfo.{FileInfo}
use Rattle.cms_disk.specs.Cursors.{AreSized, Cursor, HasLeft, HoldLeft, IsUnread, block_behind, first_begun}
use Rattle.cms_disk.specs.Disks.{StartsAt, place_of}
use Rattle.cms_disk.proofs.Gotten.{info_at}

-- ---- blocks that are passed over

bytes_long : (image : Image) (b : ℕ) (leaves : List ℕ) → AreSized image b leaves → length (bytes_at image leaves) ≡ length leaves * b
unfolding bytes_at
bytes_long image b [] sized = omega arith
bytes_long image b (n ∷ ns) sized =
    let one : length (image n) ≡ b = sized 0 (omega arith) in
    let more = bytes_long image b ns (λ k less. sized (suc k) (omega (arith, less))) in
    let both = length-append (image n) (bytes_at image ns) in
    omega (arith, one, more, both)

bytes_behind : (image : Image) (b q : ℕ) (leaves : List ℕ) → AreSized image b leaves → q ≤ length leaves → bytes_at image (drop q leaves) ≡ drop (q * b) (bytes_at image leaves)
unfolding bytes_at
bytes_behind image b zero leaves sized few = let none : 0 * b ≡ 0 = omega arith in rw none refl
bytes_behind image b (suc q) [] sized few = absurd (omega (arith, few))
bytes_behind image b (suc q) (n ∷ ns) sized few =
    let one : length (image n) ≡ b = sized 0 (omega arith) in
    let more = bytes_behind image b q ns (λ k less. sized (suc k) (omega (arith, less))) (omega (arith, few)) in
    let size : suc q * b ≡ length (image n) + q * b = omega (arith, one) in
    more ∙ (sym (drop-append-add (image n) (bytes_at image ns) (q * b)) ∙ ap (λ (i : ℕ). drop i (image n ++ bytes_at image ns)) (sym size))

-- ---- records that are passed over

pub cut_behind : (count left n : ℕ) (bytes : List ℕ) → count ≤ left → drop count (cut left n bytes) ≡ cut (left - count) n (drop (count * n) bytes)
unfolding cut
cut_behind zero left n bytes few =
    let all : left - 0 ≡ left = omega arith in
    let none : 0 * n ≡ 0 = omega arith in
    rw (all, none) refl
cut_behind (suc count) zero n bytes few = absurd (omega (arith, few))
cut_behind (suc count) (suc left) n bytes few =
    let fewer : suc left - suc count ≡ left - count = omega arith in
    let size : suc count * n ≡ n + count * n = omega arith in
    rw (fewer, size) (cut_behind count left n (drop n bytes) (omega (arith, few)) ∙ ap (cut (left - count) n) (drop-drop (count * n) n bytes))

-- the place behind so many of the records that are there is no further than the end
record Passes (image : Image) (b n count left : ℕ) (leaves : List ℕ) : Type 0 where
  blocks : block_behind count n b (length leaves) ≡ count * n / b
  bytes : drop (count * n % b) (bytes_at image (drop (count * n / b) leaves)) ≡ drop (count * n) (bytes_at image leaves)
  few : (left - count) * n + count * n ≤ length (bytes_at image leaves)

passes : (image : Image) (b n count left : ℕ) (leaves : List ℕ) → 1 ≤ b → AreSized image b leaves → count ≤ left → left * n ≤ length (bytes_at image leaves) → Passes image b n count left leaves
passes image b n count left leaves some sized fewer few =
    let long = bytes_long image b leaves sized in
    let place = count * n in
    let below : place ≤ left * n = mul-le-mul_right n fewer in
    let whole : place / b * b + place % b ≡ place = div-add-mod' place b in
    let within : place / b < length leaves + 1 = div_below place b (length leaves + 1) some (omega (arith, long, below, few, some)) in
    let rest : (left - count) + count ≡ left = omega (arith, fewer) in
    let same : ((left - count) + count) * n ≡ left * n = ap (λ (k : ℕ). k * n) rest in
    record {
      blocks = omega (arith, within);
      bytes = ap (drop (place % b)) (bytes_behind image b (place / b) leaves sized (omega (arith, within)))
          ∙ (drop-drop (place % b) (place / b * b) (bytes_at image leaves) ∙ ap (λ (i : ℕ). drop i (bytes_at image leaves)) whole);
      few = omega (arith, same, few);
    }

-- the other records are left
pub skipped : (image : Image) (c : Cursor) (count d o left : ℕ) (records : List (List ℕ)) → IsUnread c → 1 ≤ c.bsize → length c.block ≡ c.bsize → count ≤ c.left
    → d ≡ block_behind count c.begun.longest c.bsize (length c.leaves) → o ≡ count * c.begun.longest % c.bsize → left ≡ c.left - count → HasLeft image c records
    → HasLeft image (record c { done = d; over = o; left = left }) (drop count records)
skipped image c count d o left records u some long fewer is_d is_o is_left has =
    let n = c.begun.longest in
    let b = c.bsize in
    let leaves = c.leaves in
    let all = u.all in
    let gone : drop c.from c.block ≡ [] = drop_all c.from c.block (omega (arith, all, long)) in
    let behind = drop c.over (bytes_at image (drop c.done leaves)) in
    let start : drop c.from c.block ++ behind ≡ bytes_at image leaves = rw (gone, u.over, u.done) refl in
    let front : HoldLeft b (Some n) n c.left 0 (drop c.from c.block ++ behind) records =
    subst (λ (x : RecordState). HoldLeft b x.fixed x.longest c.left (next_place x) (bytes_so_far x ++ (drop c.from c.block ++ behind)) records) u.begun has.held in
    let held : HoldLeft b (Some n) n c.left 0 (bytes_at image leaves) records = subst (λ (l : List ℕ). HoldLeft b (Some n) n c.left 0 l records) start front in
    let p = passes image b n count c.left leaves some has.sizes fewer held.1 in
    let there = drop o (bytes_at image (drop d leaves)) in
    let at : there ≡ drop (count * n) (bytes_at image leaves) = rw (is_o, is_d, p.blocks) p.bytes in
    let size = length-drop (count * n) (bytes_at image leaves) in
    let few = p.few in
    let cuts : drop count records ≡ cut left n there =
    ap (drop count) held.0
    ∙ (cut_behind count c.left n (bytes_at image leaves) fewer ∙ (ap (λ (k : ℕ). cut k n (drop (count * n) (bytes_at image leaves))) (sym is_left) ∙ ap (cut left n) (sym at))) in
    let enough : left * n ≤ length there = rw (at, is_left) (omega (arith, size, few)) in
    let then' : HoldLeft b (Some n) n left 0 (drop c.from c.block ++ there) (drop count records) =
    subst (λ (l : List ℕ). HoldLeft b (Some n) n left 0 (l ++ there) (drop count records)) (sym gone) (cuts, enough) in
    record {
      sound = has.sound;
      sizes = has.sizes;
      held = subst (λ (x : RecordState). HoldLeft b x.fixed x.longest left (next_place x) (bytes_so_far x ++ (drop c.from c.block ++ there)) (drop count records)) (sym u.begun) then';
    }

-- ---- a file of a name

-- where of the file of a name nothing was read, what is told of it says how many records may be passed over
pub record IsSkippable (info : FileInfo) (c : Cursor) : Type 0 where
  pub unread : IsUnread c
  pub left : c.left ≡ info.count
  pub longest : c.begun.longest ≡ info.length

pub is_skippable : (name : Name) (v : HeldVolume) (k : ℕ) (info : FileInfo) (c : Cursor) → StartsAt name v c → place_of name v ≡ Some k → slice_get (infos_in v) k ≡ Some info → info.format ≡ F
    → IsSkippable info c
is_skippable name v k info c s place told fix =
    let same : s.place ≡ k = same_Some s.place k (sym s.place_is ∙ place) in
    let there = info_at v.files k info s.file told (subst (λ (i : ℕ). slice_get v.files i ≡ Some s.file) same s.file_is) in
    let format : s.file.entry.format ≡ F = sym (ap (λ (i : FileInfo). i.format) there) ∙ fix in
    let high : c.begun.longest ≡ s.file.length = ap (λ (b : RecordState). b.longest) s.first.begun in
    record {
      unread = record {
        done = s.first.done;
        all = s.first.all ∙ sym s.first.bsize;
        over = s.first.over;
        begun = s.first.begun ∙ (ap (λ (f : Format). first_begun f s.file.length) format ∙ ap (first_begun F) (sym high));
      };
      left = s.first.left ∙ sym (ap (λ (i : FileInfo). i.count) there);
      longest = high ∙ sym (ap (λ (i : FileInfo). i.length) there);
    }
