use Rattle.std.proofs.Common.{◌+◌, ◌<◌, [], ◌∷◌, ◌++◌, length, slice_index_or, arith}
use Rattle.std.proofs.lemmas.List.{ext_get_or}
use Rattle.cms_journal.specs.declared.event.Event.TheVariants.{Synced}
use Rattle.cms_journal.proofs.Crashes.{left_now, left_only, unwritten_left, length-contents, get-contents, contents_are, changes_nothing, blockwise}
use Rattle.cms_journal.proofs.Steps.{puts_block}
use Rattle.cms_journal.proofs.laws.crash_laws.Goals as goal

pub returns-clause-contents : goal.returns-clause-contents
returns-clause-contents c = λ events u start. record {
  same_length = length-contents events u start;
  each = λ k within. rw (get-contents events u start k within) (left_now events u (k + 1) (slice_index_or start k []));
}

pub returns-clause-synced : goal.returns-clause-synced
returns-clause-synced c = λ later events u start image none crash.
    contents_are (later ++ Synced u ∷ events) u start image crash.same_length (λ k within. left_only later events u (k + 1) _ _ none (crash.each k within))

pub returns-clause-unwritten : goal.returns-clause-unwritten
returns-clause-unwritten c = λ events u start image none crash.
    ext_get_or [] image start crash.same_length
    (λ k below. let within : k < length start = omega (arith, crash.same_length) in unwritten_left events u (k + 1) _ _ none (crash.each k within))

pub returns-clause-apart : goal.returns-clause-apart
returns-clause-apart c = λ event events u start aside. changes_nothing event events u start aside

pub returns-clause-blockwise : goal.returns-clause-blockwise
returns-clause-blockwise c = λ events u start image. blockwise events u start image

pub returns-clause-written : goal.returns-clause-written
returns-clause-written c = λ events u k bytes start first. puts_block events u k bytes start first
