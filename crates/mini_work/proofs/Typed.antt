-- What is typed, one after another.
use Rattle.std.proofs.Common.{◌≡◌, ◌∙◌, ℕ, List, [], ◌++◌, ap, refl, sym, subst}
use Rattle.cms_journal.specs.Told.{Grown, Told, plus}
use Rattle.cms_journal.proofs.Events.{all_join}
use Rattle.cms_journal.proofs.Pieces.{plus_plus}
use Rattle.cms_model.specs.Beats.{IsTyped}
use Rattle.cms_line.specs.Typed.{TypedPart, TypedTo}
use Rattle.mini_work.specs.Output.{OnlyTypes}

pub types_none : (told : Told) → OnlyTypes told told
types_none told = record { events = []; told = refl; only = tt }

pub types_same : (old new : Told) → new ≡ old → OnlyTypes old new
types_same old new same = subst (OnlyTypes old) (sym same) (types_none old)

pub types_then : (old mid new : Told) → OnlyTypes old mid → OnlyTypes mid new → OnlyTypes old new
types_then old mid new p q = record {
  events = p.events ++ q.events;
  told = q.told ∙ ap (λ (t : Told). plus t q.events) p.told ∙ plus_plus old p.events q.events;
  only = all_join IsTyped p.events q.events p.only q.only;
}

pub types_to : (old new : Told) (bytes rest : List ℕ) → TypedTo old new bytes rest → OnlyTypes old new
types_to old new bytes rest typed = record { events = typed.events; told = typed.told; only = typed.only }

pub types_part : (old new : Told) (bytes : List ℕ) → TypedPart old new bytes → OnlyTypes old new
types_part old new bytes part = types_to old new bytes part.0 part.1

-- the world was read before, and is read behind
pub types_read : (old mid typed new : Told) (bytes : List ℕ) → mid ≡ old → TypedTo mid typed bytes [] → new ≡ typed → OnlyTypes old new
types_read old mid typed new bytes first typing last =
    types_then old mid new (types_same old mid first)
    (types_then mid typed new (types_to mid typed bytes [] typing) (types_same typed new last))

pub grown_types : (old new : Told) → OnlyTypes old new → Grown old new
grown_types old new typed = record { events = typed.events; told = typed.told }
