use Rattle.std.proofs.Common.{sym}
use Rattle.mini_work.proofs.PutOn.{number_none, number_there}
use Rattle.mini_work.proofs.put.number_for.Goals as goal

pub returns-in-Some-clause-number : goal.returns-in-Some-clause-number
returns-in-Some-clause-number c = λ told m s.
    number_there c.args.given told c.args.disk.now m c.args.name.now c.in-Some.place c.mode_number.result (sym c.in-Some.ensures) s c.mode_number.ensures.told

pub returns-in-None-clause-number : goal.returns-in-None-clause-number
returns-in-None-clause-number c = λ told m s. number_none c.args.given told c.args.disk.now m c.args.name.now (sym c.in-None.ensures) s
