-- What a recorder keeps, event by event and unit by unit.
use Rattle.std.proofs.Common.{Result, Ok, Err, is_ok, is_err, true, false, if◌then◌else◌, reverse, take, ◌≡◌, ◌≢◌, ◌⊎◌, inl, inr, ℕ, zero, suc, ◌+◌, ◌-◌, ◌<◌, ◌≤◌, List, [], ◌∷◌, ◌++◌, length, refl, sym, ap, ◌∙◌, All, slice_get, slice_index_or, slice_set, None, Some, length-append, arith}
use Rattle.std.proofs.lemmas.Bool.Decides.{nat_tests, eqb_tells}
use Rattle.std.proofs.lemmas.Option.{slice_get_cases}
use Rattle.std.proofs.lemmas.Grind.{get_or-set_at}
use Rattle.std.specs.Prelude.{⊤}
use Rattle.std.proofs.lemmas.Bool.{true≢false}
use Rattle.std.proofs.lemmas.List.{take-append-le, take_all, reverse-append, length-set, get_or-set_other, get_or_append_left, get_or-append_right}
use Rattle.std.proofs.lemmas.List.Elements.{All-get_or}
use Rattle.cms_journal.specs.declared.event.Event.{Event}
use Rattle.cms_journal.specs.declared.event.Event.TheVariants.{Read, Now, Typed, Wrote, Synced, Missed}
use Rattle.cms_journal.specs.declared.event.Attached.{Attached}
use Rattle.cms_journal.specs.Journal.{Journal, HasUnit, HasBlock, block_after, contents, start_of, typed_of}
use Rattle.cms_journal.specs.Laws.{NoneWrote}
use Rattle.cms_journal.proofs.Crashes.{unwritten_now, untouched_unwritten, contents_unwritten, contents_start, length-contents, get-contents, changes_nothing}
use Rattle.cms_journal.proofs.Steps.{contents_wrote}
use Rattle.cms_world.specs.Recorder.{MayHappen, AreSized, AreCurrent, AreToCome, IsRecord}

-- a unit that is attached is one of the list
pub HasUnit-within : (units : List Attached) (u : ℕ) → HasUnit units u → u < length units
HasUnit-within units u has = grind (arith, slice_get_cases units u)

-- a unit that has a block is one of the list, and the block one of its
pub HasBlock-within : (units : List Attached) (u k size : ℕ) → HasBlock units u k size → (u < length units) × (1 ≤ k) × (k ≤ length (start_of units u))
HasBlock-within units u k size has = grind (arith, slice_get_cases units u)

-- a unit has one block size
HasBlock-same : (units : List Attached) (u k size v l size' : ℕ) → v ≡ u → HasBlock units v l size' → HasBlock units u k size → size' ≡ size
HasBlock-same units u k size v l size' same one other = grind (arith, slice_get_cases units u)

-- ---- an event that is no write

unwritten_by : (units : List Attached) (event : Event) (u : ℕ) → MayHappen units event → NoneWrote (event ∷ []) u
unwritten_by units (Wrote v w bytes) u may = absurd may
unwritten_by units (Synced v) u may = tt
unwritten_by units (Read bytes) u may = tt
unwritten_by units (Now t) u may = tt
unwritten_by units (Typed bytes) u may = tt
unwritten_by units (Missed name size access) u may = tt

sized_same : (units : List Attached) (event : Event) (events : List Event) → MayHappen units event → AreSized units events → AreSized units (event ∷ events)
sized_same units (Wrote v w bytes) events may sized = absurd may
sized_same units (Synced v) events may sized = sized
sized_same units (Read bytes) events may sized = sized
sized_same units (Now t) events may sized = sized
sized_same units (Typed bytes) events may sized = sized
sized_same units (Missed name size access) events may sized = sized

current_same : (units : List Attached) (current : List (List (List ℕ))) (later : List Event) (events : List Event) → ((u : ℕ) → NoneWrote later u) → AreCurrent units current events
    → AreCurrent units current (later ++ events)
current_same units current later events none is = λ u inside. is u inside ∙ sym (contents_unwritten later events u (start_of units u) (none u))

to_come_add : (units : List Attached) (event : Event) (events : List Event) → MayHappen units event → AreToCome units events → AreToCome units (event ∷ events)
to_come_add units (Wrote v w bytes) events may to_come = absurd may
to_come_add units (Synced v) events may to_come = λ u above. let within = HasUnit-within units v may in let before = to_come u above in grind (arith, within, before)
to_come_add units (Read bytes) events may to_come = λ u above. (tt, to_come u above)
to_come_add units (Now t) events may to_come = λ u above. (tt, to_come u above)
to_come_add units (Typed bytes) events may to_come = absurd may
to_come_add units (Missed name size access) events may to_come = λ u above. (tt, to_come u above)

typed_same : (units : List Attached) (event : Event) (events : List Event) (typed : List ℕ) → MayHappen units event → typed ≡ typed_of events → typed ≡ typed_of (event ∷ events)
typed_same units (Wrote v w bytes) events typed may is = absurd may
typed_same units (Synced v) events typed may is = is
typed_same units (Read bytes) events typed may is = is
typed_same units (Now t) events typed may is = is
typed_same units (Typed bytes) events typed may is = absurd may
typed_same units (Missed name size access) events typed may is = is

pub record_add : (units : List Attached) (current : List (List (List ℕ))) (event : Event) (events : List Event) (typed : List ℕ) → MayHappen units event → IsRecord units current events typed
    → IsRecord units current (event ∷ events) typed
record_add units current event events typed may is = record {
  same_length = is.same_length;
  current_is = current_same units current (event ∷ []) events (λ u. unwritten_by units event u may) is.current_is;
  sized = sized_same units event events may is.sized;
  to_come = to_come_add units event events may is.to_come;
  typed_is = typed_same units event events typed may is.typed_is;
}

pub record_typed : (units : List Attached) (current : List (List (List ℕ))) (bytes : List ℕ) (events : List Event) (typed : List ℕ) → IsRecord units current events typed
    → IsRecord units current (Typed bytes ∷ events) (typed ++ bytes)
record_typed units current bytes events typed is = record {
  same_length = is.same_length;
  current_is = current_same units current (Typed bytes ∷ []) events (λ u. tt) is.current_is;
  sized = is.sized;
  to_come = λ u above. (tt, is.to_come u above);
  typed_is = ap (λ (xs : List ℕ). xs ++ bytes) is.typed_is;
}

-- ---- a write

sized_wrote : (units : List Attached) (v w : ℕ) (bytes : List ℕ) (events : List Event) → HasBlock units v w (length bytes) → AreSized units events → AreSized units (Wrote v w bytes ∷ events)
sized_wrote units v w bytes events has sized = λ u k size has_u.
    let before = sized u k size has_u in
    let same = HasBlock-same units u k size v w (length bytes) in
    grind (arith, nat_tests, eqb_tells v u, eqb_tells w k, before, same)

-- the contents of another unit
other_contents : (events : List Event) (u v k : ℕ) (bytes : List ℕ) (start : List (List ℕ)) → v ≢ u → contents (Wrote v k bytes ∷ events) u start ≡ contents events u start
other_contents events u v k bytes start other = (changes_nothing (Wrote v k bytes) events u start other).contents_same

current_wrote : (units : List Attached) (current : List (List (List ℕ))) (events : List Event) (v k size : ℕ) (bytes : List ℕ) → HasBlock units v k size → length current ≡ length units
    → AreCurrent units current events
    → AreCurrent units (slice_set current v (slice_set (slice_index_or current v []) (k - 1) bytes)) (Wrote v k bytes ∷ events)
current_wrote units current events v k size bytes has len is = λ u inside.
    let within = HasBlock-within units v k size has in
    let same = is u inside in
    let at = get_or-set_at current v u (slice_set (slice_index_or current v []) (k - 1) bytes) [] in
    let other = get_or-set_other current v u (slice_set (slice_index_or current v []) (k - 1) bytes) [] in
    let wrote = contents_wrote events v k bytes (start_of units v) within.1 in
    let apart = other_contents events u v k bytes (start_of units u) in
    grind (arith, nat_tests, eqb_tells v u, same, at, other, len, within, wrote, apart)

record_wrote : (units : List Attached) (current : List (List (List ℕ))) (events : List Event) (typed : List ℕ) (v k : ℕ) (bytes : List ℕ) → HasBlock units v k (length bytes)
    → IsRecord units current events typed
    → IsRecord units (slice_set current v (slice_set (slice_index_or current v []) (k - 1) bytes)) (Wrote v k bytes ∷ events) typed
record_wrote units current events typed v k bytes has is =
    let within = HasBlock-within units v k (length bytes) has in
    record {
      same_length = length-set current v _ ∙ is.same_length;
      current_is = current_wrote units current events v k (length bytes) bytes has is.same_length is.current_is;
      sized = sized_wrote units v k bytes events has is.sized;
      to_come = λ u above. let ne : v ≢ u = (λ e. absurd (omega (arith, e, within, above))) in (ne, is.to_come u above);
      typed_is = is.typed_is;
    }

get_or-default : (xs : List (List (List ℕ))) (i : ℕ) (d e : List (List ℕ)) → i < length xs → slice_index_or xs i d ≡ slice_index_or xs i e
get_or-default [] i d e within = absurd (omega arith)
get_or-default (x ∷ xs) zero d e within = refl
get_or-default (x ∷ xs) (suc i) d e within = get_or-default xs i d e (omega arith)

-- the blocks that are kept of a unit, as an index reads them
pub current_at : (units : List Attached) (current : List (List (List ℕ))) (events : List Event) (typed : List ℕ) (u : ℕ) (held : List (List ℕ)) → u < length units
    → IsRecord units current events typed → held ≡ slice_index_or current u held → held ≡ contents events u (start_of units u)
current_at units current events typed u held within is read =
    let inside : u < length current = omega (arith, is.same_length, within) in
    read ∙ get_or-default current u held [] inside ∙ is.current_is u within

pub record_read : (units : List Attached) (current : List (List (List ℕ))) (events : List Event) (typed : List ℕ) (u k size : ℕ) (held : List (List ℕ)) → HasBlock units u k size
    → IsRecord units current events typed → held ≡ slice_index_or current u held
    → (held ≡ contents events u (start_of units u)) × (k - 1 < length held)
record_read units current events typed u k size held has is read =
    let within = HasBlock-within units u k size has in
    let inside : u < length current = omega (arith, is.same_length, within) in
    let same : held ≡ contents events u (start_of units u) = read ∙ get_or-default current u held [] inside ∙ is.current_is u within.0 in
    (same, omega (arith, ap length same, length-contents events u (start_of units u), within))

pub record_wrote_at : (units : List Attached) (current : List (List (List ℕ))) (events : List Event) (typed : List ℕ) (v k : ℕ) (bytes : List ℕ) (held : List (List ℕ))
    → HasBlock units v k (length bytes) → IsRecord units current events typed → held ≡ slice_index_or current v held
    → IsRecord units (slice_set current v (slice_set held (k - 1) bytes)) (Wrote v k bytes ∷ events) typed
record_wrote_at units current events typed v k bytes held has is read =
    let within = HasBlock-within units v k (length bytes) has in
    let inside : v < length current = omega (arith, is.same_length, within) in
    rw (read ∙ get_or-default current v held [] inside) (record_wrote units current events typed v k bytes has is)

-- a block of the contents is the unit's block
pub block-contents : (units : List Attached) (events : List Event) (u k size : ℕ) → HasBlock units u k size
    → slice_index_or (contents events u (start_of units u)) (k - 1) [] ≡ block_after events u k (slice_index_or (start_of units u) (k - 1) [])
block-contents units events u k size has =
    let within = HasBlock-within units u k size has in
    let inside : k - 1 < length (start_of units u) = omega (arith, within) in
    let same : (k - 1) + 1 ≡ k = omega (arith, within) in
    get-contents events u (start_of units u) (k - 1) inside ∙ ap (λ (m : ℕ). block_after events u m (slice_index_or (start_of units u) (k - 1) [])) same

-- ---- a unit more

-- a unit of a list with one more
get_push : (units : List Attached) (unit : Attached) (u : ℕ) →
    ((u < length units) × (slice_get (units ++ unit ∷ []) u ≡ slice_get units u))
    ⊎ (((u ≡ length units) × (slice_get (units ++ unit ∷ []) u ≡ Some unit)) ⊎ ((length units < u) × (slice_get (units ++ unit ∷ []) u ≡ None)))
get_push [] unit zero = inr (inl (refl, refl))
get_push [] unit (suc u) = inr (inr (omega arith, refl))
get_push (x ∷ xs) unit zero = inl (omega arith, refl)
get_push (x ∷ xs) unit (suc u) = let ih = get_push xs unit u in grind (arith, ih)

sized_attach : (units : List Attached) (unit : Attached) (events : List Event) → All (λ block. length block ≡ unit.bsize) unit.start → AreToCome units events → AreSized units events
    → AreSized (units ++ unit ∷ []) events
sized_attach units unit events start to_come sized = λ u k size has. elim (get_push units unit u) [
  | inl old ↦ rw old.1 (sized u k size (rw old.1 at has))
  | inr new ↦ elim new [
    | inl last ↦
        let here : (unit.bsize ≡ size) × (1 ≤ k) × (k ≤ length unit.start) = rw last.1 at has in
        let above : length units ≤ u = omega (arith, last.0) in
        let within : k - 1 < length unit.start = omega (arith, here) in
        rw (last.1, unwritten_now events u k (slice_index_or unit.start (k - 1) []) (untouched_unwritten events u (to_come u above)))
        (All-get_or (λ block. length block ≡ unit.bsize) unit.start (k - 1) [] within start ∙ here.0)
    | inr missing ↦ absurd (rw missing.1 at has)
  ]
]

current_attach : (units : List Attached) (current : List (List (List ℕ))) (events : List Event) (unit : Attached) → length current ≡ length units → AreToCome units events
    → AreCurrent units current events
    → AreCurrent (units ++ unit ∷ []) (current ++ unit.start ∷ []) events
current_attach units current events unit len to_come is = λ u inside.
    let below : u < length units + 1 = omega (arith, simp length-append at inside) in
    elim (get_push units unit u) [
      | inl old ↦
          let before = is u old.0 in
          let read = get_or_append_left current (unit.start ∷ []) [] u in
          grind (arith, before, read, old, len)
      | inr new ↦ elim new [
        | inl last ↦
            let no = contents_start events u unit.start (untouched_unwritten events u (to_come u (omega (arith, last.0)))) in
            let read = get_or-append_right current (unit.start ∷ []) (length units) u [] in
            grind (arith, no, read, last, len)
        | inr past ↦ absurd (omega (arith, below, past.0))
      ]
    ]

pub record_attach : (units : List Attached) (current : List (List (List ℕ))) (unit : Attached) (events : List Event) (typed : List ℕ) → All (λ block. length block ≡ unit.bsize) unit.start
    → IsRecord units current events typed
    → IsRecord (units ++ unit ∷ []) (current ++ unit.start ∷ []) events typed
record_attach units current unit events typed start is = record {
  same_length = simp length-append (omega (arith, is.same_length));
  current_is = current_attach units current events unit is.same_length is.to_come is.current_is;
  sized = sized_attach units unit events start is.to_come is.sized;
  to_come = λ u above. is.to_come u (omega (arith, simp length-append at above));
  typed_is = is.typed_is;
}

-- ---- the journal that is seen

abbrev pub journal : List Attached → List Event → Journal
journal units events = record { units = units; events = events }

-- one more event
pub view_more : (units : List Attached) (old new : List Event) (event : Event) (j : Journal) → new ≡ old ++ event ∷ [] → journal units (reverse old) ≡ j
    → journal units (reverse new) ≡ journal j.units (event ∷ j.events)
view_more units old new event j is view = rw (is, reverse-append) (ap (λ (i : Journal). journal i.units (event ∷ i.events)) view)

-- no more events
pub view_same : (units units' : List Attached) (old new : List Event) (j : Journal) → units' ≡ units → new ≡ old → journal units (reverse old) ≡ j → journal units' (reverse new) ≡ j
view_same units units' old new j same is view = rw (same, is) view

-- one more unit
pub view_unit : (units new : List Attached) (unit : Attached) (events : List Event) (j : Journal) → new ≡ units ++ unit ∷ [] → journal units events ≡ j
    → journal new events ≡ journal (j.units ++ unit ∷ []) j.events
view_unit units new unit events j is view = rw is (ap (λ (i : Journal). journal (i.units ++ unit ∷ []) i.events) view)

-- ---- what a push leaves

pub pushed_err : {A E : Type 0} (r : Result ⊤ E) (items : List A) (x : A) (new : List A) → new ≡ (if is_ok r then items ++ x ∷ [] else items) → is_err r ≡ true → new ≡ items
pushed_err (Ok u) items x new is err = absurd (true≢false (sym err))
pushed_err (Err e) items x new is err = is

pub pushed_ok : {A E : Type 0} (r : Result ⊤ E) (items : List A) (x : A) (new : List A) → new ≡ (if is_ok r then items ++ x ∷ [] else items) → is_err r ≡ false → new ≡ items ++ x ∷ []
pushed_ok (Ok u) items x new is ok = is
pushed_ok (Err e) items x new is ok = absurd (true≢false ok)

-- what was added is cut off again
pub cut_back : {A : Type 0} (xs ys new out : List A) (n : ℕ) → new ≡ xs ++ ys → n ≡ length xs → out ≡ take n new → out ≡ xs
cut_back {A} xs ys new out n is long cut =
    cut ∙ (ap (λ (l : List A). take n l) is ∙ (take-append-le n xs ys (omega (arith, long)) ∙ take_all n xs (omega (arith, long))))
