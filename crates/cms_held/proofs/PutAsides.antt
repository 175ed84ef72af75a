-- What is answered to a file that is put, and writes to free blocks.
use Rattle.std.proofs.Common.{◌≡◌, inl, inr, ⊎_elim, ℕ, ◌+◌, ◌/◌, ◌≤◌, Bool, true, false, List, [], ◌∷◌, ◌++◌, length, map, position, Option, None, Some, refl, sym, ◌∙◌, ap, subst, arith, append_assoc, length-append}
use Rattle.std.proofs.lemmas.List.{length-set, take_all}
use Rattle.cms_journal.specs.Journal.{Journal, start_of}
use Rattle.cms_journal.specs.declared.event.Event.{Event}
use Rattle.cms_journal.specs.declared.event.Event.TheVariants.{Synced, Wrote}
use Rattle.cms_names.specs.declared.name.Name.{Name}
use Rattle.cms_fields.specs.declared.label.Label.{Label}
use Rattle.cms_model.specs.Lists.{In, times}
use Rattle.cms_model.specs.Trees.{bytes_at}
use Rattle.cms_model.specs.Minidisks.{File, Minidisk, same_name}
use Rattle.cms_model.specs.Changes.{Change, Put, answer_of, changed, changed_files, entries_made, is_full, limit, need, written_file}
use Rattle.cms_model.specs.Records.{stored}
use Rattle.cms_model.specs.Settled.{Apart, Write, frame, writes}
use Rattle.cms_model.specs.Sizes.{file_size, free_count}
use Rattle.cms_model.specs.Stands.{Layout, file_of, layout_blocks, minidisk_in, opened}
use Rattle.cms_model.specs.LawsUpdates.{AreWithin, IsFront, after, now}
use Rattle.cms_model.proofs.DirectoryNeed.{place_is_named}
use Rattle.cms_model.proofs.ListChanges.{none_added, place_changed}
use Rattle.cms_model.proofs.Records.{length_stored}
use Rattle.cms_model.proofs.Renewed.{minidisk_is}
use Rattle.cms_model.proofs.Repeats.{held, held_from, in_from, in_held}
use Rattle.cms_map.specs.Bits.{bits_in, free_blocks}
use Rattle.cms_tree.specs.Climbs.{AreOwn}
use Rattle.cms_held.specs.HeldVolumes.{HeldVolume, names_in}
use Rattle.cms_held.specs.LawsHeld.{IsFound}
use Rattle.cms_held.specs.LawsRenewals.{AreBlocks, IsHeldAt}
use Rattle.cms_held.specs.Puts.{AreFree, DraftGoesOn, FreeIsAside, PutIsAnswered, answer_put, count_put, count_with, limit_put, made_put, made_with, need_put}
use Rattle.cms_model.proofs.Fronts.{Cut, cut_front, front_nil}
use Rattle.cms_model.proofs.WritesPut.{writes_put}
use Rattle.cms_model.specs.LawsUpdates.{put_blocks}
use Rattle.cms_held.specs.Drafts.{HasDraft, draft_writes, own_blocks}
use Rattle.cms_held.specs.Systems.{HasWritten}
use Rattle.cms_held.proofs.DraftBlocks.{Among, among_left, among_right, draft_is_put, draft_stays, each_written, has_among, in_draft}
use Rattle.cms_held.proofs.Exchanged.{other}
use Rattle.cms_held.proofs.HeldFiles.{opened_has_room, opened_is_held, place_is_told}
use Rattle.cms_held.proofs.MapMarks.{AreUnmarked, lowest_free}
use Rattle.cms_held.proofs.OldBlocks.{frame_blocks, old_blocks, old_opens}
use Rattle.cms_held.proofs.StillHeld.{front_keeps_held}

-- ---- the place of a name

-- the place that is found is that of the minidisk's file
pub found_in : (j : Journal) (v : HeldVolume) (old : Layout) (name : Name) → IsHeldAt j v old → IsFound name (map file_of old.files) (position (same_name name) (names_in v.files))
found_in j v old name x =
    let names : names_in v.files ≡ map (λ f. f.name) (map file_of old.files) =
    (opened_is_held v.unit v.disk (now j v.unit) (opened old) v (old_opens j v old x) x.held).names_are ∙ ap (λ (m : Minidisk). map (λ (f : File). f.name) m.files) (minidisk_is v.disk old) in
    subst (IsFound name (map file_of old.files)) (ap (position (same_name name)) (sym names)) (place_is_told name (map file_of old.files))

pub files_count : (j : Journal) (v : HeldVolume) (old : Layout) → IsHeldAt j v old → length (map file_of old.files) ≡ length v.files
files_count j v old x =
    sym ((opened_is_held v.unit v.disk (now j v.unit) (opened old) v (old_opens j v old x) x.held).count_is ∙ ap (λ (m : Minidisk). length m.files) (minidisk_is v.disk old))

pub count_put_is : (files : List File) (new : File) (place : Option ℕ) → IsFound new.name files place → length (changed_files files (Put new)) ≡ count_with place (length files)
unfolding changed_files
count_put_is files new None none = ap (λ (l : List File). length l) ((none_added new.name files none).put new refl) ∙ length-append files (new ∷ [])
count_put_is files new (Some k) there = ap (λ (l : List File). length l) ((place_changed new.name files k there).put new refl) ∙ length-set files k new

pub count_after : (j : Journal) (v : HeldVolume) (old : Layout) (new : File) → IsHeldAt j v old → length (changed_files (map file_of old.files) (Put new)) ≡ count_put v new.name
count_after j v old new x =
    count_put_is (map file_of old.files) new (position (same_name new.name) (names_in v.files)) (found_in j v old new.name x)
    ∙ ap (count_with (position (same_name new.name) (names_in v.files))) (files_count j v old x)

-- by the place that is found for a name
made_found : (files : List File) (new : File) (place : Option ℕ) (count : ℕ) → length files ≡ count → IsFound new.name files place → entries_made files (Put new) ≡ made_with place count
unfolding entries_made
made_found files new None count same none = ap (λ (n : ℕ). 0 ∷ (n + 2) ∷ []) ((place_is_named new.name files).none none ∙ same)
made_found files new (Some k) count same there = ap (λ (n : ℕ). 0 ∷ (n + 2) ∷ []) ((place_is_named new.name files).found k there)

pub put_made : (j : Journal) (v : HeldVolume) (old : Layout) (new : File) → IsHeldAt j v old → entries_made (map file_of old.files) (Put new) ≡ made_put v new.name
put_made j v old new x = made_found (map file_of old.files) new (position (same_name new.name) (names_in v.files)) (length v.files) (files_count j v old x) (found_in j v old new.name x)

-- ---- the answer

limit_is : (m : Minidisk) (new : File) (files : ℕ) → length (changed_files m.files (Put new)) ≡ files
    → limit m (Put new) ≡ limit_put files (length new.records) (length (stored new.format new.records))
unfolding limit written_file
limit_is m new files is = rw (is, length_stored new.format new.records) refl

pub need_is_put : (v : HeldVolume) (old : Layout) (new : File) → v.label.blocks ≡ old.label.blocks → length (changed_files (map file_of old.files) (Put new)) ≡ count_put v new.name
    → length (map file_of old.files) ≡ length v.files → entries_made (map file_of old.files) (Put new) ≡ made_put v new.name
    → need (minidisk_in v.disk old) (Put new) ≡ need_put v new.name new.format (length (stored new.format new.records))
unfolding need written_file file_size
need_is_put v old new same count files made = rw (count, files, made, length_stored new.format new.records, same) refl

pub answers : (o : Option ℕ) (m : Minidisk) (change : Change) (needs free : ℕ) → limit m change ≡ o → need m change ≡ needs → free_count m ≡ free
    → answer_of m change ≡ answer_put o needs free (changed m change)
unfolding answer_of is_full
answers (Some k) m change needs free limited needed is_free = rw limited refl
answers None m change needs free limited needed is_free = rw (limited, needed, is_free) refl

pub put_is_answered : PutIsAnswered
put_is_answered j v m new is_held kept =
    let old = is_held.layout in
    let x = is_held.at in
    let same = is_held.minidisk_is in
    let blocks : v.label.blocks ≡ old.label.blocks = ap (λ (l : Label). l.blocks) x.held.label_is in
    let count = count_after j v old new x in
    let room = opened_has_room v.unit v.disk (now j v.unit) (opened old) v x.whole (old_opens j v old x) x.held in
    let free : free_count (minidisk_in v.disk old) ≡ length (free_blocks v.bits) = sym (room.free_is ∙ ap free_count (minidisk_is v.disk old)) in
    subst (λ (k : Minidisk). answer_of k (Put new) ≡ answer_put (limit_put (count_put v new.name) (length new.records) (length (stored new.format new.records)))
    (need_put v new.name new.format (length (stored new.format new.records))) (length (free_blocks v.bits)) (changed k (Put new))) (sym same)
    (answers (limit_put (count_put v new.name) (length new.records) (length (stored new.format new.records))) (minidisk_in v.disk old) (Put new)
    (need_put v new.name new.format (length (stored new.format new.records))) (length (free_blocks v.bits))
    (limit_is (minidisk_in v.disk old) new (count_put v new.name) count) (need_is_put v old new blocks count (files_count j v old x) (put_made j v old new x)) free)

-- ---- free blocks

pub all_free : (j : Journal) (v : HeldVolume) (old : Layout) → IsHeldAt j v old
    → AreUnmarked old.label.blocks (bytes_at (now j v.unit) old.map_met.leaves) (free_blocks v.bits)
all_free j v old x =
    let h = old_blocks j v old x in
    subst (λ (bits : List Bool). AreUnmarked old.label.blocks (bytes_at (now j v.unit) old.map_met.leaves) (free_blocks bits)) (sym h.bits)
    (lowest_free old.label.blocks (bytes_at (now j v.unit) old.map_met.leaves) (free_blocks (bits_in old.label.blocks (bytes_at (now j v.unit) old.map_met.leaves)))
    (sym (take_all (length (free_blocks (bits_in old.label.blocks (bytes_at (now j v.unit) old.map_met.leaves)))) (free_blocks (bits_in old.label.blocks (bytes_at (now j v.unit) old.map_met.leaves)))
    (omega arith))))

-- where a free block stands
pub record IsAside (old : Layout) (n : ℕ) : Type 0 where
  pub low : 6 ≤ n
  pub high : n ≤ old.label.blocks
  pub aside : In n (frame (opened old)) → ⊥

pub free_aside : (j : Journal) (v : HeldVolume) (old : Layout) → IsHeldAt j v old → (n : ℕ) → In n (free_blocks v.bits) → IsAside old n
free_aside j v old x n is_free =
    let h = old_blocks j v old x in
    let u = (all_free j v old x).each n (held n (free_blocks v.bits) (in_held n (free_blocks v.bits) is_free)) in
    let low = u.0 in
    record {
      low = u.0;
      high = u.1;
      aside = λ in'. ⊎_elim
          (λ (three : n ≡ 3). absurd (omega arith))
          (λ more. ⊎_elim
          (λ (at : n ≡ old.label.origin). let high = (other old.label.origin h.origin).old_high in absurd (omega arith))
          (λ (there : 1 ≤ times n (layout_blocks old)). absurd (clash (sym (h.marked n u.0 there) ∙ u.2)))
          more)
          (frame_blocks old n in');
    }
  where
    clash : true ≡ false → ⊥
    clash e = cc

own_apart : (old : Layout) (bsize count : ℕ) (blocks : List ℕ) (ws : List Write) → old.label.blocks ≤ count → ((n : ℕ) → In n blocks → IsAside old n) → AreOwn bsize blocks ws
    → Apart ws (frame (opened old)) × AreWithin count ws × AreBlocks bsize ws
own_apart old bsize count blocks [] top aside own = (tt, tt, tt)
own_apart old bsize count blocks (w ∷ ws) top aside own =
    let a = aside w.block own.0 in
    let low = a.low in
    let high = a.high in
    let rest = own_apart old bsize count blocks ws top aside own.2 in
    ((a.aside, rest.0), (omega arith, omega arith, rest.1), (own.1, rest.2))

pub free_of : (v : HeldVolume) (blocks : List ℕ) → AreFree v blocks → (n : ℕ) → In n blocks → In n (free_blocks v.bits)
free_of v blocks are_free n in' =
    let some = held n blocks (in_held n blocks in') in
    let fewer = are_free n in
    in_from n (free_blocks v.bits) (held_from n (free_blocks v.bits) (omega arith))

pub free_is_aside : FreeIsAside
free_is_aside j v m blocks ws p is_held are_free own front =
    let old = is_held.layout in
    let x = is_held.at in
    let h = old_blocks j v old x in
    let top = h.top in
    let attached = x.attached in
    let o = own_apart old v.disk.bsize (length (start_of j.units v.unit)) blocks ws (omega arith) (λ n in'. free_aside j v old x n (free_of v blocks are_free n in')) own in
    record {
      layout = old;
      at = front_keeps_held j v old ws p x o.2 o.1 o.0 (record {
        rest = front.rest ++ Synced v.unit ∷ [];
        is =
            sym (append_assoc p front.rest (Synced v.unit ∷ [])) ∙ ap (λ (l : List Event). l ++ Synced v.unit ∷ []) front.is;
      });
      minidisk_is = is_held.minidisk_is;
    }

-- ---- a draft

-- the front of the events of writes is those of the first writes
record FrontOfWrites (u : ℕ) (ws : List Write) (p : List Event) : Type 0 where
  first : List Write
  rest : List Write
  whole : ws ≡ first ++ rest
  is : p ≡ writes u first

front_of_writes : (u : ℕ) (ws : List Write) (p : List Event) → IsFront p (writes u ws) → FrontOfWrites u ws p
unfolding writes
front_of_writes u [] p f = record { first = []; rest = []; whole = refl; is = front_nil p f }
front_of_writes u (w ∷ ws) p f = ⊎_elim
    (λ (none : p ≡ []). record { first = []; rest = w ∷ ws; whole = refl; is = none })
    (λ (c : Cut p (Wrote u w.block w.bytes) (writes u ws)).
    let more = front_of_writes u ws c.piece c.front in
    record { first = w ∷ more.first; rest = more.rest; whole = ap (λ (l : List Write). w ∷ l) more.whole; is = c.is ∙ ap (λ (l : List Event). Wrote u w.block w.bytes ∷ l) more.is })
    (cut_front p (Wrote u w.block w.bytes) (writes u ws) f)

within_each : (count : ℕ) (ws : List Write) → ((w : Write) → Among w ws → (1 ≤ w.block) × (w.block ≤ count)) → AreWithin count ws
within_each count [] each = tt
within_each count (w ∷ ws) each = let here = each w (inl refl) in (here.0, here.1, within_each count ws (λ v there. each v (inr there)))

pub draft_goes_on : DraftGoesOn
draft_goes_on j v m psize leaves marks fresh kept es bytes from to part is_held once are_free plan low is has = record {
  stays = λ p front.
      let f = front_of_writes v.unit part p front in
      let whole : front_draft ++ (f.first ++ f.rest) ≡ whole_draft = ap (λ (l : List Write). front_draft ++ l) (sym f.whole) ∙ is in
      subst (λ (q : List Event). HasDraft (now (after j q) v.unit) v.disk.bsize psize leaves marks fresh kept es bytes from) (sym f.is)
      (settled front_draft f.first (λ w there. subst (Among w) is (among_left w front_draft part there)) (λ w there. subst (Among w) (sym f.whole) (among_left w f.first f.rest there))
      (draft_stays (now j v.unit) v.disk.bsize psize leaves marks fresh kept es bytes from to f.first f.rest plan once low whole has));
  stands = settled whole_draft part (λ w there. there) (λ w there. there)
      (draft_is_put (now j v.unit) v.disk.bsize psize leaves marks fresh kept es bytes from to part plan once low is has);
}
  where
    front_draft : List Write
    front_draft = draft_writes v.disk.bsize psize leaves marks fresh kept es bytes from

    whole_draft : List Write
    whole_draft = draft_writes v.disk.bsize psize leaves marks fresh kept es bytes to

    place : (w : Write) → Among w whole_draft → IsAside is_held.layout w.block
    place w there =
        free_aside j v is_held.layout is_held.at w.block
        (free_of v (own_blocks (v.disk.bsize / psize) leaves fresh kept) are_free w.block (in_draft v.disk.bsize psize leaves marks fresh kept es bytes to plan low w there))

    within : (w : Write) → Among w whole_draft → (1 ≤ w.block) × (w.block ≤ length (start_of j.units v.unit))
    within w there =
        let a = place w there in
        let six = a.low in
        let high = a.high in
        let top = (old_blocks j v is_held.layout is_held.at).top in
        let attached = is_held.at.attached in
        (omega arith, omega arith)

    settled : (ws more : List Write) → ((w : Write) → Among w ws → Among w whole_draft) → ((w : Write) → Among w more → Among w part) → HasWritten (put_blocks (now j v.unit) more) ws
        → HasWritten (now (after j (writes v.unit more)) v.unit) ws
    settled ws more among among_part has' =
        let inside : AreWithin (length (start_of j.units v.unit)) more = within_each (length (start_of j.units v.unit)) more
        (λ w there. within w (subst (Among w) is (among_right w front_draft part (among_part w there)))) in
        each_written (now (after j (writes v.unit more)) v.unit) ws
        (λ w there. writes_put j v.unit more w.block inside (within w (among w there)).0 ∙ has_among (put_blocks (now j v.unit) more) ws w has' there)
