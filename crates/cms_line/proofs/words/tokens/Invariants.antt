use Rattle.std.proofs.Common.{◌≡◌, ◌≤◌, ◌++◌, drop}
use Rattle.cms_line.specs.Tokens.{tokens_of, tokens_from}
use Rattle.cms_line.proofs.words.tokens.Given as goal

abbrev pub invariant-loop-place : goal.invariant-loop-place
invariant-loop-place l = record {
  ordered : l.start ≤ l.place;
  so_far : tokens_of l.bytes ≡ l.tokens ++ tokens_from l.bytes l.start l.place (drop l.place l.bytes);
}
