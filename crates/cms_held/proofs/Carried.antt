-- An update that was planned is carried out, or its change is full.
use Rattle.std.proofs.Common.{◌≡◌, inl, inr, ⊎_elim, ℕ, suc, ◌+◌, ◌≤◌, List, [], ◌∷◌, ◌++◌, length, map, position, None, Ok, sym, ◌∙◌, ap, subst, arith, zero-add}
use Rattle.std.proofs.lemmas.List.{length-map, length-set}
use Rattle.std.proofs.Math.Nat.{suc-add}
use Rattle.cms_fields.specs.declared.label.Label.{Label}
use Rattle.cms_fields.specs.declared.time.Stamp.{Stamp}
use Rattle.cms_journal.specs.declared.event.Event.{Event}
use Rattle.cms_journal.specs.declared.event.Event.TheVariants.{Synced, Wrote}
use Rattle.cms_journal.specs.Journal.{Journal}
use Rattle.cms_names.specs.declared.name.Name.{Name}
use Rattle.cms_model.specs.Trees.{Image, image_of}
use Rattle.cms_model.specs.Minidisks.{File, Minidisk, Volume, same_name}
use Rattle.cms_model.specs.Changes.{Change, Changed, Full, answer_of, changed, changed_files, changed_volid, entries_made, need}
use Rattle.cms_model.specs.Volumes.{open_of}
use Rattle.cms_model.specs.Stands.{Layout, file_of, minidisk_in, opened}
use Rattle.cms_model.specs.LawsChanges.{NoneNamed}
use Rattle.cms_model.specs.LawsUpdates.{now}
use Rattle.cms_model.specs.Settled.{Write, update, writes}
use Rattle.cms_model.proofs.OpenedVolumes.{state_opens}
use Rattle.cms_model.proofs.Renewed.{minidisk_is}
use Rattle.cms_map.specs.Bits.{free_blocks}
use Rattle.cms_held.specs.HeldVolumes.{HeldVolume, names_in}
use Rattle.cms_held.specs.Kept.{Keeps}
use Rattle.cms_held.specs.LawsHeld.{IsFound}
use Rattle.cms_held.specs.Renewals.{Edit, moved_file, needed, renamed}
use Rattle.cms_held.specs.LawsRenewals.{IsHeldAt, IsRenewal, later_of, writes_of}
use Rattle.cms_held.specs.LawsEdits.{Edits, IsEdit, IsAnswered}
use Rattle.cms_held.specs.MinidiskUpdates.{Carries, IsEditOf, IsHeldMinidisk, IsReadyFor, LackingIsFull, PlannedIsCarried, UpdateIsSmall, drops, moves, renames, written_count}
use Rattle.cms_held.specs.Systems.{Systems}
use Rattle.cms_held.proofs.Answered.{edit_is_answered, edit_small, renewed_changed, same_volid}
use Rattle.cms_held.proofs.Centuries.{century_moves}
use Rattle.cms_held.proofs.Edits.{Moved, beside_count, drop_moves, rename_moves}
use Rattle.cms_held.proofs.HeldFiles.{opened_is_held, place_is_told}
use Rattle.cms_held.proofs.StillHeld.{front_keeps_held}
use Rattle.cms_held.proofs.OldBlocks.{old_opens}
use Rattle.cms_held.proofs.SwapRemoved.{length-removed}
use Rattle.cms_held.proofs.EditNeeds.{edit_made, writes_need}
use Rattle.cms_held.proofs.PlannedWrites.{WritesBlocks, planned_blocks, planned_within, planned_writes, taking, update_renews}

-- ---- the edit of a change

is_edit : (v : HeldVolume) (edit : Edit) (change : Change) → IsEditOf v edit change → IsEdit change
is_edit v edit change (drops place f there) = tt
is_edit v edit change (renames place f to number there small free) = tt
is_edit v edit change (moves pivot small) = tt

-- a name that isn't found has no file
none_named : (j : Journal) (v : HeldVolume) (old : Layout) (to : Name) → IsHeldAt j v old → position (same_name to) (names_in v.files) ≡ None → NoneNamed to (map file_of old.files)
none_named j v old to x none =
    let names : names_in v.files ≡ map (λ f. f.name) (map file_of old.files) =
    (opened_is_held v.unit v.disk (now j v.unit) (opened old) v (old_opens j v old x) x.held).names_are ∙ ap (λ (m : Minidisk). map (λ (f : File). f.name) m.files) (minidisk_is v.disk old) in
    subst (IsFound to (map file_of old.files)) (ap (position (same_name to)) (sym names) ∙ none) (place_is_told to (map file_of old.files))

moved_of : (j : Journal) (v : HeldVolume) (old : Layout) (later : Image) (edit : Edit) (change : Change) → IsHeldAt j v old → Keeps v → IsEditOf v edit change
    → Moved (now j v.unit) later v edit old change
moved_of j v old later edit change x kept (drops place f there) = drop_moves j v old later place f x kept there
moved_of j v old later edit change x kept (renames place f to number there small free) =
    rename_moves j v old later place f to number x kept there small (⊎_elim (λ none. inl (none_named j v old to x none)) (λ own. inr own) free)
moved_of j v old later edit change x kept (moves pivot small) = century_moves j v old later pivot x kept small

-- as many files as the change leaves
pub same_count : (before later : Image) (v : HeldVolume) (old : Layout) (edit : Edit) (change : Change) → (e : Moved before later v edit old change)
    → length (changed_files (map file_of old.files) change) ≡ length edit.files
same_count before later v old edit change e =
    ap (λ (l : List File). length l) (sym e.files_are) ∙ (length-map e.files file_of ∙ beside_count e.files edit.files e.held)

few_files : (j : Journal) (v : HeldVolume) (old : Layout) (edit : Edit) (change : Change) → IsHeldAt j v old → Keeps v → IsEditOf v edit change → length edit.files ≤ 16384
few_files j v old edit change x kept (drops place f there) = let few = kept.few in omega (arith, length-removed v.files place f)
few_files j v old edit change x kept (renames place f to number there small free) = let few = kept.few in omega (arith, length-set v.files place (renamed to number f))
few_files j v old edit change x kept (moves pivot small) = let few = kept.few in omega (arith, length-map v.files (moved_file pivot))

-- ---- the room that it takes

answered : (j : Journal) (v : HeldVolume) (old : Layout) (later : Image) (edit : Edit) (change : Change) → IsHeldAt j v old → Keeps v → IsEditOf v edit change
    → IsAnswered (minidisk_in v.disk old) change (needed v (length edit.files) edit.made) (length (free_blocks v.bits))
answered j v old later edit change x kept is =
    let count = same_count (now j v.unit) later v old edit change (moved_of j v old later edit change x kept is) in
    let few = few_files j v old edit change x kept is in
    let made = edit_made j v old edit change x is in
    subst (λ (l : List ℕ). IsAnswered (minidisk_in v.disk old) change (needed v (length edit.files) l) (length (free_blocks v.bits))) (sym made)
    (subst (λ (n : ℕ). IsAnswered (minidisk_in v.disk old) change (needed v n (entries_made (map file_of old.files) change)) (length (free_blocks v.bits))) count
    (edit_is_answered j v old change x (is_edit v edit change is) (omega arith)))

-- ---- the whole

-- an update that was planned for an edit that is the change
pub renewal_of : (j : Journal) (v : HeldVolume) (edit : Edit) (stamp : Stamp) (s : Systems) (m : Minidisk) (change : Change) → (held : IsHeldMinidisk j v m) → IsReadyFor v edit stamp s
    → (e : Moved (now j v.unit) (now (later_of j v s) v.unit) v edit held.layout change) → IsRenewal j v edit stamp s held.layout e.files
renewal_of j v edit stamp s m change held ready e = record { at = held.at; planned = ready.planned; leaves = e.leaves ready.back }

-- and is made
pub carries_of : (j : Journal) (v : HeldVolume) (edit : Edit) (stamp : Stamp) (s : Systems) (m : Minidisk) (change : Change) → (held : IsHeldMinidisk j v m) → IsReadyFor v edit stamp s
    → Moved (now j v.unit) (now (later_of j v s) v.unit) v edit held.layout change → changed_volid held.layout.label.volid change ≡ held.layout.label.volid
    → answer_of m change ≡ Changed (changed m change) → Carries j v edit s m change
carries_of j v edit stamp s m change held ready e volid answer =
    let old = held.layout in
    let x = held.at in
    let same = held.minidisk_is in
    let before = now j v.unit in
    let later = now (later_of j v s) v.unit in
    let ren = renewal_of j v edit stamp s m change held ready e in
    let t = taking j v edit stamp s old e.files ren in
    let r = update_renews j v edit stamp s old e.files ren in
    let edits : Edits before later v edit old change = record { files = e.files; files_are = e.files_are; leaves = e.leaves ready.back } in
    let changes : minidisk_in v.disk r.new ≡ changed m change =
    renewed_changed j before later v edit s old change edits volid r ∙ ap (λ (k : Minidisk). changed k change) (sym same) in
    record {
      answer = answer;
      either = λ p front image may. ⊎_elim
          (λ (was : open_of v.disk (image_of image) ≡ Ok (opened old)). inl (state_opens v.disk (image_of image) (opened old) was ∙ ap Volume (minidisk_is v.disk old ∙ sym same)))
          (λ (is' : open_of v.disk (image_of image) ≡ Ok (opened r.new)). inr (state_opens v.disk (image_of image) (opened r.new) is' ∙ ap Volume (minidisk_is v.disk r.new ∙ changes)))
          (r.updates.either p front image may);
      before = λ p front. record {
        layout = old;
        at = front_keeps_held j v old (writes_of v s) p x (planned_blocks j v edit stamp s old e.files t) (planned_within j v edit stamp s old e.files t) r.apart front;
        minidisk_is = same;
      };
      done = record { layout = r.new; at = r.at; minidisk_is = sym changes };
    }

pub planned_is_carried : PlannedIsCarried
planned_is_carried j v edit stamp s m change held is ready =
    let old = held.layout in
    let e = moved_of j v old (now (later_of j v s) v.unit) edit change held.at ready.kept is in
    let room = ready.planned.room in
    let a = answered j v old (now (later_of j v s) v.unit) edit change held.at ready.kept is in
    carries_of j v edit stamp s m change held ready e (same_volid old.label.volid change (is_edit v edit change is))
    (subst (λ (k : Minidisk). answer_of k change ≡ Changed (changed k change)) (sym held.minidisk_is) (a.made (omega arith)))

pub lacking_is_full : LackingIsFull
lacking_is_full j v edit m change held is kept short =
    subst (λ (k : Minidisk). answer_of k change ≡ Full (needed v (length edit.files) edit.made) (length (free_blocks v.bits))) (sym held.minidisk_is)
    ((answered j v held.layout (now j v.unit) edit change held.at kept is).full short)

-- what it writes
pub edit_writes : (j : Journal) (v : HeldVolume) (edit : Edit) (stamp : Stamp) (s : Systems) (m : Minidisk) (change : Change) → IsHeldMinidisk j v m → IsEditOf v edit change
    → IsReadyFor v edit stamp s → WritesBlocks v edit stamp s
edit_writes j v edit stamp s m change held is ready =
    let old = held.layout in
    let e = moved_of j v old (now (later_of j v s) v.unit) edit change held.at ready.kept is in
    planned_writes j v edit stamp s old e.files (taking j v edit stamp s old e.files (renewal_of j v edit stamp s m change held ready e))

-- ---- how much is written

writes_counted : (u : ℕ) (ws : List Write) (more : List Event) → written_count (writes u ws ++ more) ≡ length ws + written_count more
unfolding writes written_count
writes_counted u [] more = sym (zero-add (written_count more))
writes_counted u (w ∷ ws) more = ap suc (writes_counted u ws more) ∙ sym (suc-add (length ws) (written_count more))

pub update_counted : (u : ℕ) (ws : List Write) (label : List ℕ) → written_count (update u ws label) ≡ length ws + 1
unfolding update written_count
update_counted u ws label = writes_counted u ws (Synced u ∷ Wrote u 3 label ∷ Synced u ∷ [])

pub update_is_small : UpdateIsSmall
update_is_small j v edit stamp s m change held is ready =
    let old = held.layout in
    let x = held.at in
    let e = moved_of j v old (now (later_of j v s) v.unit) edit change x ready.kept is in
    let few = writes_need j v edit stamp s old e.files change (renewal_of j v edit stamp s m change held ready e) e.files_are (edit_made j v old edit change x is) in
    let small = edit_small v old change (length (writes_of v s)) (ap (λ (l : Label). l.blocks) x.held.label_is) (is_edit v edit change is) few in
    let same : need m change ≡ need (minidisk_in v.disk old) change = ap (λ (k : Minidisk). need k change) held.minidisk_is in
    let all = update_counted v.unit (writes_of v s) s.label_bytes in
    omega arith
