use Rattle.cms_world.specs.Seen.{seen}
use Rattle.cms_ext.specs.Objects.{objects_of, words_of}
use Rattle.cms_search.proofs.Lined.{AreSaid}
use Rattle.cms_session.proofs.nucleus.say_words.Given as goal

abbrev pub invariant-loop-place : goal.invariant-loop-place
invariant-loop-place g l =
    AreSaid (words_of (objects_of (λ k. (g.dyn-1.0.entry k).1) l.extensions)) (seen g.W.World l.initial.world) (seen g.W.World l.world) l.place
