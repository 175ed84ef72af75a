-- Lines that are typed.
use Rattle.std.proofs.Common.{◌≡◌, ◌≤◌, ℕ, List, [], Result, Ok, Err, IfErr, OnOk, OnErr, append-nil, refl, sym, ap, ◌∙◌, arith}
use Rattle.std.specs.List.{AllByRecursion}
use Rattle.cms_journal.specs.declared.event.Event.{Event}
use Rattle.cms_journal.specs.declared.event.Event.TheVariants.{Read, Now, Typed, Wrote, Synced, Missed}
use Rattle.cms_journal.specs.Told.{Told, plus, TouchesNone, NoDisk, typed}
use Rattle.cms_journal.proofs.Events.{all_weaker}
use Rattle.cms_model.specs.Acts.{Act, Done, saying, typed_line}
use Rattle.cms_model.specs.Beats.{IsTyped, OnlyTyped}
use Rattle.cms_model.proofs.Single.{ran_out, broke_out, broke_before}
use Rattle.cms_journal.proofs.Pieces.{idle_same}
use Rattle.cms_line.specs.Typed.{TypedTo, TypedPart}
use Rattle.cms_journal.specs.Causes.{Rose}
use Rattle.cms_search.specs.declared.state.End.{End}
use Rattle.cms_search.specs.declared.state.End.TheVariants.{Memory, Edge}
use Rattle.cms_search.specs.declared.state.Course.{Course}
use Rattle.cms_search.specs.Calls.{Does, after_world, itself, said}
use Rattle.cms_world.specs.Seen.{Seen}

-- events of a kind that is neither a write nor a sync touch no unit
pub aside : (P : Event → Type 0) → ((u k : ℕ) (v : List ℕ) → P (Wrote u k v) → ⊥) → ((u : ℕ) → P (Synced u) → ⊥) → (es : List Event) → AllByRecursion P es → NoDisk es
aside P wrote synced es only =
    all_weaker P TouchesNone touches es only
  where
    touches : (e : Event) → P e → TouchesNone e
    touches (Typed b) is = tt
    touches (Read b) is = tt
    touches (Now m) is = tt
    touches (Missed name size access) is = tt
    touches (Wrote u k v) is = wrote u k v is
    touches (Synced u) is = synced u is

pub typed_no_disk : (es : List Event) → OnlyTyped es → NoDisk es
typed_no_disk es only = aside IsTyped (λ u k v is. is) (λ u is. is) es only

-- all of a line was typed, or a front of it
pub said_line : (before now : Seen) (text : List ℕ) (r : Result (Unit {0}) End) → OnOk r (TypedTo before.told now.told (typed_line text) [])
    → OnErr r (TypedPart before.told now.told (typed_line text)) → now.faults ≡ before.faults → before.edges ≤ now.edges
    → IfErr r (λ e. e ≡ Edge → Rose before.edges now.edges) → Does before now (saying (typed_line text)) r itself
said_line before now text (Ok x) ok err faults edges cause = record {
  each = λ p journal.
      ran_out p (after_world p now) (typed_line text) (Done x) ok.events (ok.told ∙ ap (λ (t : Told). plus t ok.events) (sym journal))
      ok.only (sym (append-nil (typed ok.events)) ∙ ok.is) (omega arith) refl (record { unread = refl; ended = refl }) refl;
  idle = record { events = ok.events; told = ok.told; none = typed_no_disk ok.events ok.only };
  faults = faults;
  edges = edges;
  cause = cause;
}
said_line before now text (Err e) ok err faults edges cause =
    let rest = err.0 in
    let part = err.1 in
    record {
      each = λ p journal.
          broke_out p (after_world p now) (typed_line text) (Done tt) part.events rest
          (part.told ∙ ap (λ (t : Told). plus t part.events) (sym journal)) part.only part.is (omega arith) refl;
      idle = record { events = part.events; told = part.told; none = typed_no_disk part.events part.only };
      faults = faults;
      edges = edges;
      cause = cause;
    }

-- there was no memory, and nothing was done
pub not_done : {R T : Type 0} (before : Seen) (t : Act R) (d : T → R) → Does {T = T} before before t (Err Memory) d
not_done before t d = record {
  each = λ p journal. broke_before p (after_world p before) t (sym journal) (omega arith) refl;
  idle = idle_same before.told before.told refl;
  faults = refl;
  edges = omega arith;
  cause = λ edge. absurd (cc);
}

-- a message was typed, as a refusal's
pub refused_so : (before now : Seen) (t : Act (Unit {0})) (x : Unit {0}) (c : Course) → Does before now t (Ok x) itself → Does before now t (Ok c) said
refused_so before now t x c d =
    record { each = λ p journal. d.each p journal; idle = d.idle; faults = d.faults; edges = d.edges; cause = tt }

pub refused_stops : {T : Type 0} (before now : Seen) (t : Act (Unit {0})) (e : End) → Does {T = Unit {0}} before now t (Err e) itself
    → Does {T = T} before now t (Err e) said
refused_stops before now t e d =
    record { each = λ p journal. d.each p journal; idle = d.idle; faults = d.faults; edges = d.edges; cause = d.cause }
