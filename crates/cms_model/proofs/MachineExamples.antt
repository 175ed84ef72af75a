-- Worked rows of the definitions.
use Rattle.std.specs.Prelude.{◌==◌, length}
use Rattle.std.proofs.Common.{◌≡◌, inl, inr, ℕ, suc, ℤ, true, false, List, [], ◌∷◌, refl, arith, ⊎_elim}
use Rattle.cms_ebcdic.specs.CodePage as page
use Rattle.cms_fields.specs.declared.time.Stamp.{Stamp}
use Rattle.cms_model.specs.Minidisks.{File, Minidisk, State, Volume, Not}
use Rattle.cms_model.specs.Changes.{Century, Put, Relabel, Full, Changed, empty_minidisk}
use Rattle.cms_model.specs.Slots.{Before, After, Slot, Settled, Doubt}
use Rattle.cms_model.specs.Steps.{Access, Get, Wipe, Make, Good, ReadFault, SyncFault, OldFault, EitherFault, IsOutcome, slot_after, put_syncs, sync_count}
use Rattle.cms_model.specs.Items.{Text}
use Rattle.cms_model.specs.Acts.{Act, Done, Out, Take, Turn, Does, Asks, typed_line}
use Rattle.cms_model.specs.Objects.{Ask, Object, Went}
use Rattle.cms_model.specs.Traces.{TraceItem, Shown, Spent, States, added, At, Within}
use Rattle.cms_model.specs.Feeds.{Over, WaitsForScript, WaitsForMoment, WaitsForObject, feed}

-- ---- a ready line, a turn, and a unit that is wiped

abbrev example : List TraceItem
example = Shown (82 ∷ 59 ∷ 10 ∷ []) ∷ Spent ∷ States 0 (Not 2 ∷ []) ∷ []

abbrev before : List State
before = Not 9 ∷ []

states_differ : Not 2 ≡ Not 9 → ⊥
states_differ e = cc

other_state : Not 9 ≡ Not 2 → ⊥
other_state e = cc

-- within the line the unit is as before, and only so
at_one : At example 1 0 before (Not 9)
at_one = inl (omega arith, inl refl)

at_one_only : At example 1 0 before (Not 2) → ⊥
at_one_only (inl h) = ⊎_elim states_differ (λ a. a) h.1
at_one_only (inr h) = omega (arith, h.0)

-- behind it, before the next byte, both
at_three : At example 3 0 before (Not 9)
at_three = inr (omega arith, inl (refl, inl refl))

at_three_new : At example 3 0 before (Not 2)
at_three_new = inr (omega arith, inr (inl refl))

-- of another unit nothing is said
at_three_other : At example 3 1 before (Not 2) → ⊥
at_three_other (inl h) = omega (arith, h.0)
at_three_other (inr h) = ⊎_elim (λ a. ⊎_elim states_differ (λ b. b) a.1) (λ a. ⊎_elim states_differ (λ b. b) a) h.1

-- before the turn the unit is as before, behind it both
within_no_turn : Within example 3 0 0 before (Not 2) → ⊥
within_no_turn (inl h) = omega (arith, h.0)
within_no_turn (inr h) = ⊎_elim (λ a. ⊎_elim states_differ (λ b. b) a.2) (λ a. let e = a.1 in cc) h.1

within_turn : Within example 3 1 0 before (Not 2)
within_turn = inr (omega arith, inr (0, refl, inr (inl refl)))

within_turn_old : Within example 3 1 0 before (Not 9)
within_turn_old = inr (omega arith, inr (0, refl, inl (refl, refl, inl refl)))

-- ---- steps

abbrev disk : Minidisk
disk = empty_minidisk (86 ∷ []) 512 100

abbrev doubt : Slot
doubt = Doubt (Not 9) (Volume disk) After

access_settled : sync_count (Access 0 (Settled (Not 9))) Good ≡ 0
access_settled = refl

access_good : sync_count (Access 0 doubt) Good ≡ 1
access_good = refl

access_read : sync_count (Access 0 doubt) (ReadFault 0) ≡ 1
access_read = refl

access_sync : sync_count (Access 0 doubt) SyncFault ≡ 0
access_sync = refl

get_fault : (file : File) → sync_count (Get 0 file 5) (ReadFault 3) ≡ 0
get_fault file = refl

wipe_good : sync_count (Wipe 0 (Not 9)) Good ≡ 1
wipe_good = refl

wipe_either : sync_count (Wipe 0 (Not 9)) (EitherFault Before) ≡ 0
wipe_either = refl

make_good : (stamp : Stamp) → sync_count (Make 0 (Not 2) disk stamp) Good ≡ 2
make_good stamp = refl

make_old : (stamp : Stamp) → sync_count (Make 0 (Not 2) disk stamp) OldFault ≡ 0
make_old stamp = refl

make_either : (stamp : Stamp) → sync_count (Make 0 (Not 2) disk stamp) (EitherFault After) ≡ 1
make_either stamp = refl

relabel_good : put_syncs (Relabel (87 ∷ [])) (Changed disk) Good ≡ 1
relabel_good = refl

relabel_either : put_syncs (Relabel (87 ∷ [])) (Changed disk) (EitherFault Before) ≡ 0
relabel_either = refl

put_good : (file : File) → put_syncs (Put file) (Changed disk) Good ≡ 2
put_good file = refl

put_either : (file : File) → put_syncs (Put file) (Changed disk) (EitherFault Before) ≡ 1
put_either file = refl

century_good : (pivot : ℕ) → put_syncs (Century pivot) (Changed disk) Good ≡ 2
century_good pivot = refl

refused : (file : File) → put_syncs (Put file) (Full 9 7) Good ≡ 0
refused file = refl

-- the sync of a unit that isn't in doubt can't fail
settled_sync : IsOutcome (Access 0 (Settled (Not 9))) SyncFault → ⊥
settled_sync h = cc

-- an access ends the doubt with the state of its side, also where a read failed then
doubt_over : slot_after doubt (Access 0 doubt) (ReadFault 0) ≡ Settled (Volume disk)
doubt_over = refl

doubt_stays : slot_after doubt (Access 0 doubt) SyncFault ≡ doubt
doubt_stays = refl

wiped : added (Wipe 1 (Not 9)) Good ≡ States 1 (Not 2 ∷ []) ∷ []
wiped = refl

in_doubt : (stamp : Stamp) → added (Make 1 (Not 2) disk stamp) (EitherFault Before) ≡ States 1 (Not 2 ∷ Volume disk ∷ []) ∷ []
in_doubt stamp = refl

as_before : (stamp : Stamp) → added (Make 1 (Not 2) disk stamp) OldFault ≡ []
as_before stamp = refl

-- ---- trees

abbrev tree : Act ℕ
tree = Take (λ item. Turn (λ seconds. Does (Wipe 0 (Not 9)) (λ o. Out (82 ∷ 10 ∷ []) (Done 7))))

fed_none : feed tree [] false [] [] [] ≡ record { trace = []; close = WaitsForScript }
fed_none = refl

fed_line : feed tree (Text [] ∷ []) false [] [] [] ≡ record { trace = []; close = WaitsForMoment }
fed_line = refl

fed_end : (m : ℤ) → feed tree [] true (m ∷ []) [] [] ≡ record { trace = Spent ∷ States 0 (Not 2 ∷ []) ∷ Shown (82 ∷ 10 ∷ []) ∷ []; close = Over 7 }
fed_end m = refl

fed_fault : (m : ℤ) → feed tree [] true (m ∷ []) (EitherFault Before ∷ []) [] ≡ record { trace = Spent ∷ States 0 (Not 9 ∷ Not 2 ∷ []) ∷ Shown (82 ∷ 10 ∷ []) ∷ []; close = Over 7 }
fed_fault m = refl

-- ---- an object, which may grow by a line when it is asked

abbrev grower : Object
grower = record { word = 71 ∷ []; does = λ before reply want after. length after == suc (length before); content = [] }

abbrev asking : Act ℕ
asking = Asks 0 grower Went (λ back. Done (length back.content))

fed_answer : feed asking [] true [] [] (record { want = Ask; content = [] ∷ [] } ∷ []) ≡ record { trace = []; close = Over 1 }
fed_answer = refl

fed_untested : feed asking [] true [] [] (record { want = Ask; content = [] } ∷ []) ≡ record { trace = []; close = WaitsForObject }
fed_untested = refl

fed_unasked : feed asking [] true [] [] [] ≡ record { trace = []; close = WaitsForObject }
fed_unasked = refl

-- R; as it is typed
ready : typed_line (217 ∷ 94 ∷ []) ≡ 82 ∷ 59 ∷ 10 ∷ []
unfolding typed_line page.host_of page.character_of page.code_page
ready = refl
