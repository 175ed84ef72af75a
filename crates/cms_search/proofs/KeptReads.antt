-- What was read and not taken is kept where an ask is cut off.
use Rattle.std.proofs.Common.{◌≡◌, ℕ, suc, ◌+◌, ◌∙◌, Bool, true, false, ◌||◌, List, [], ◌∷◌, ◌++◌, Option, Some, Result, Ok, Err, OnErr, append-nil, append_assoc, arith, length, length-append, refl, sym, ap}
use Rattle.std.specs.Prelude.{All}
use Rattle.std.proofs.lemmas.List.Elements.{All-append, All-nil, All-push}
use Rattle.std.proofs.Math.Bool.{or-false, or_assoc}
use Rattle.cms_journal.specs.declared.event.Event.{Event}
use Rattle.cms_journal.specs.declared.event.Event.TheVariants.{Read, Now, Typed, Wrote, Synced, Missed}
use Rattle.cms_journal.specs.Told.{Told, is_over, plus, script}
use Rattle.cms_journal.proofs.Pieces.{is_over-append, plus_plus, script-append}
use Rattle.cms_model.specs.Acts.{Act, Asks, Does, Done, Drops, Out, Take, Turn, taking}
use Rattle.cms_model.specs.Beats.{OnlyRead, pieces}
use Rattle.cms_model.specs.Items.{Goes, Item, Lazy, Unread, extended, items, listed}
use Rattle.cms_model.specs.Points.{Point}
use Rattle.cms_model.specs.Runs.{Part}
use Rattle.cms_model.specs.Steps.{unit_of}
use Rattle.cms_model.proofs.Feed.{ended_chain, extended-append, extended-nil}
use Rattle.cms_model.proofs.Pieces.{disk_silent, typed_silent}
use Rattle.cms_model.proofs.Waits.{no_read}
use Rattle.cms_model.proofs.Whole.{chain_told, part_no_script}
use Rattle.cms_line.specs.ConsoleState.{Console, state}
use Rattle.cms_line.specs.Consoles.{Stayed, Took, item_of}
use Rattle.cms_line.specs.declared.console.ConsoleLine.{ConsoleLine}
use Rattle.cms_world.specs.Seen.{Seen}
use Rattle.cms_search.specs.Calls.{Plays}
use Rattle.cms_search.specs.Talks.{IsNoLine, KeepsRead, Talks, item_in, standing}
use Rattle.cms_search.specs.declared.asked_line.NoLine.{NoLine}
use Rattle.cms_search.specs.declared.asked_line.NoLine.TheVariants as no
use Rattle.cms_search.specs.declared.state.End.{End}

-- ---- a call that reads nothing

-- the events have no bytes of the script, and don't tell its end
pub record ReadsNone (old new : Told) : Type 0 where
  pub events : List Event
  pub told : new ≡ plus old events
  pub script : script events ≡ []
  pub over : is_over events ≡ false

-- no event is a read
unread_events : (es : List Event) → ((front rest : List Event) (b : List ℕ) → front ++ Read b ∷ rest ≡ es → ⊥) → (script es ≡ []) × (is_over es ≡ false)
unread_events [] none = (refl, refl)
unread_events (Read b ∷ es) none = absurd (none [] es b refl)
unread_events (Typed b ∷ es) none = unread_events es (λ front rest c is. none (Typed b ∷ front) rest c (ap (λ (l : List Event). Typed b ∷ l) is))
unread_events (Now m ∷ es) none = unread_events es (λ front rest c is. none (Now m ∷ front) rest c (ap (λ (l : List Event). Now m ∷ l) is))
unread_events (Missed name size access ∷ es) none =
    unread_events es (λ front rest c is. none (Missed name size access ∷ front) rest c (ap (λ (l : List Event). Missed name size access ∷ l) is))
unread_events (Wrote u k b ∷ es) none = unread_events es (λ front rest c is. none (Wrote u k b ∷ front) rest c (ap (λ (l : List Event). Wrote u k b ∷ l) is))
unread_events (Synced u ∷ es) none = unread_events es (λ front rest c is. none (Synced u ∷ front) rest c (ap (λ (l : List Event). Synced u ∷ l) is))

-- once the script's end is told, a part of a deed has no read
part_unread : {R : Type 0} (p : Point) (t : Act R) (es : List Event) → Part p t es → p.ended ≡ true → (script es ≡ []) × (is_over es ≡ false)
part_unread p (Done a) es h e = rw h (refl, refl)
part_unread p (Out b t) es h e = let s = typed_silent es h.0 in (s.script_none, s.over_not)
part_unread p (Turn k) es h e = rw h (refl, refl)
part_unread p (Asks n o r k) es h e = rw h (refl, refl)
part_unread p (Drops n t) es h e = rw h (refl, refl)
part_unread p (Does s k) es h e = let d = disk_silent (unit_of s) es h.disk in (d.script_none, d.over_not)
part_unread p (Take k) es h e = unread_events es (λ front rest b is.
    let open' : (p.ended || is_over front) ≡ false = (h.1 front rest b is).0 in
    let over : (p.ended || is_over front) ≡ true = ap (λ (x : Bool). x || is_over front) e in
    let clash : true ≡ false = sym over ∙ open' in
    absurd (cc clash))

-- at a console whose script has ended
plays_unread : {R T : Type 0} (p q : Point) (t : Act R) (r : Result T End) (d : T → R) → p.ended ≡ true → Plays p q t r d
    → (es : List Event) × (q.journal ≡ plus p.journal es) × (script es ≡ []) × (is_over es ≡ false)
plays_unread p q t (Ok x) d ended ran =
    let none = unread_events (pieces ran.beats) (no_read p q ran.beats ran.chain ended) in
    (pieces ran.beats, chain_told p q ran.beats ran.chain, none.0, none.1)
plays_unread {R = R} p q t (Err e) d ended broke =
    let bs = broke.ran.beats in
    let front = unread_events (pieces bs) (no_read p broke.mid bs broke.ran.chain ended) in
    let rest = part_unread {R = R} broke.mid broke.rest broke.loose broke.part (ended_chain p broke.mid bs broke.ran.chain ended).1 in (
      pieces bs ++ broke.loose,
      broke.journal ∙ ap (λ (j : Told). plus j broke.loose) (chain_told p broke.mid bs broke.ran.chain) ∙ plus_plus p.journal (pieces bs) broke.loose,
      script-append (pieces bs) broke.loose ∙ ap (λ (l : List ℕ). l ++ script broke.loose) front.0 ∙ rest.0,
      is_over-append (pieces bs) broke.loose ∙ ap (λ (b : Bool). b || is_over broke.loose) front.1 ∙ rest.1,
    )

-- a call that leaves whichever console reads nothing
pub unread_talks : {R T : Type 0} (before now : Seen) (t : Act R) (r : Result T End) (d : T → R)
    → ((c : Console) → Talks before now c c t r d) → ReadsNone before.told now.told
unread_talks {T = T} before now t r d talks =
    let c = state 0 [] true in
    let x = plays_unread {T = T} (standing before.told c 0 [] []) (standing now.told c 0 [] []) t r d refl ((talks c).each 0 [] []) in
    record { events = x.0; told = x.1; script = x.2; over = x.3 }

-- ---- what is kept

-- nothing was read
pub keeps_none : (told : Told) (c : Console) (left : ℕ) → KeepsRead told told c c left left
keeps_none told c left = record {
  events = [];
  told = refl;
  dropped = [];
  no_lines = All-nil IsNoLine;
  turns = omega arith;
  unread = λ more e goes. ap (λ (u : Unread). items (extended u more) e) (extended-nil c.unread);
  over = sym (or-false c.ended);
}

-- a call read nothing
pub keeps_still : (old mid new : Told) (was c : Console) (all left : ℕ) → KeepsRead old mid was c all left → ReadsNone mid new → KeepsRead old new was c all left
keeps_still old mid new was c all left k r = record {
  events = k.events ++ r.events;
  told = r.told ∙ ap (λ (j : Told). plus j r.events) k.told ∙ plus_plus old k.events r.events;
  dropped = k.dropped;
  no_lines = k.no_lines;
  turns = k.turns;
  unread = λ more e goes.
      let same : script (k.events ++ r.events) ≡ script k.events =
      script-append k.events r.events ∙ ap (λ (l : List ℕ). script k.events ++ l) r.script ∙ append-nil (script k.events) in
      ap (λ (l : List ℕ). items (extended (extended was.unread l) more) e) same ∙ k.unread more e goes;
  over = k.over ∙ ap (λ (b : Bool). was.ended || b)
      (sym (is_over-append k.events r.events ∙ ap (λ (b : Bool). is_over k.events || b) r.over ∙ or-false (is_over k.events)));
}

-- more was read, and these items were taken of it
keeps_on : (old mid new : Told) (was c now : Console) (all left less : ℕ) (es : List Event) (taken : List Item) → KeepsRead old mid was c all left
    → new ≡ plus mid es → OnlyRead es → Lazy c.unread c.ended es → All IsNoLine taken → less + length taken ≡ left → now.ended ≡ (c.ended || is_over es)
    → ((more : List ℕ) (e : Bool) → Goes now.ended more e → items (extended (extended c.unread (script es)) more) e ≡ taken ++ items (extended now.unread more) e)
    → KeepsRead old new was now all less
keeps_on old mid new was c now all left less es taken k told only lazy none turns over unread = record {
  events = k.events ++ es;
  told = told ∙ ap (λ (j : Told). plus j es) k.told ∙ plus_plus old k.events es;
  dropped = k.dropped ++ taken;
  no_lines = All-append IsNoLine k.dropped taken k.no_lines none;
  turns = (let long = length-append k.dropped taken in let before = k.turns in omega arith);
  unread = λ more e goes.
      ap (λ (l : List ℕ). items (extended (extended was.unread l) more) e) (script-append k.events es)
      ∙ ap (λ (u : Unread). items (extended u more) e) (sym (extended-append was.unread (script k.events) (script es)))
      ∙ ap (λ (u : Unread). items u e) (extended-append (extended was.unread (script k.events)) (script es) more)
      ∙ k.unread (script es ++ more) e (goes_before more e goes)
      ∙ ap (λ (u : Unread). k.dropped ++ items u e) (sym (extended-append c.unread (script es) more))
      ∙ ap (λ (l : List Item). k.dropped ++ l) (unread more e goes)
      ∙ sym (append_assoc k.dropped taken (items (extended now.unread more) e));
  over = over ∙ ap (λ (b : Bool). b || is_over es) k.over ∙ or_assoc was.ended (is_over k.events) (is_over es)
      ∙ ap (λ (b : Bool). was.ended || b) (sym (is_over-append k.events es));
}
  where
    -- nothing was read past the script's end
    goes_before : (more : List ℕ) (e : Bool) → Goes now.ended more e → Goes c.ended (script es ++ more) e
    goes_before more e goes ended =
        let g = goes (over ∙ ap (λ (b : Bool). b || is_over es) ended) in
        let s : script es ≡ [] = part_no_script (standing mid c 0 [] []) taking es (only, lazy) ended in
        (ap (λ (l : List ℕ). l ++ more) s ∙ g.0, g.1)

-- no line was taken
pub keeps_stayed : (old mid new : Told) (was c now : Console) (all left : ℕ) → KeepsRead old mid was c all left → Stayed mid new c now → KeepsRead old new was now all left
keeps_stayed old mid new was c now all left k s =
    keeps_on old mid new was c now all left left s.events [] k s.told s.only s.keeps.lazy (All-nil IsNoLine) (omega arith) s.keeps.over s.keeps.told

no_line : (n : NoLine) → IsNoLine (item_in n)
no_line no.Bad = tt
no_line no.Long = tt
no_line no.Rest = tt

-- an item that is no line was taken, and it is dropped for a turn
pub keeps_dropped : (old mid half new : Told) (was c now : Console) (all left less : ℕ) (l : ConsoleLine) (n : NoLine) → KeepsRead old mid was c all left
    → Took mid half c now l → item_of l ≡ Some (item_in n) → left ≡ suc less → ReadsNone half new → KeepsRead old new was now all less
keeps_dropped old mid half new was c now all left less l n k t is some r =
    keeps_still old half new was now all less
    (keeps_on old mid half was c now all left less t.events (item_in n ∷ []) k t.told t.only t.takes.lazy (All-push IsNoLine [] (item_in n) (All-nil IsNoLine) (no_line n)) (omega arith) t.takes.over
    (λ more e goes. t.takes.told more e goes ∙ ap (λ (i : Option Item). listed i ++ items (extended now.unread more) e) is))
    r

-- it is said of an `Err` alone
pub at_err : {T E : Type 0} (r : Result T E) (P : Type 0) → P → OnErr r P
at_err (Ok x) P p = tt
at_err (Err e) P p = p
