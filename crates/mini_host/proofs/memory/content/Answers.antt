use Rattle.mini_host.proofs.memory.content.Goals as goal

pub find-requires-clause-can : goal.find-requires-clause-can
find-requires-clause-can c = tt

pub find-requires-clause-finite : goal.find-requires-clause-finite
find-requires-clause-finite c = tt

pub map-requires : goal.map-requires
map-requires c = λ x is. tt
