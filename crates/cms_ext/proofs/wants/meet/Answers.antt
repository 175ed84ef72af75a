use Rattle.cms_ext.proofs.wants.meet.Goals as goal

pub returns-in-Say-clause-acts : goal.returns-in-Say-clause-acts
returns-in-Say-clause-acts g c = λ objects. let is = c.in-Say.is in rw is (c.say_all.ensures objects)

pub returns-in-Ask-clause-acts : goal.returns-in-Ask-clause-acts
returns-in-Ask-clause-acts g c = λ objects. let is = c.in-Ask.is in rw is (c.ask.ensures.acts objects)

pub returns-in-Get-clause-acts : goal.returns-in-Get-clause-acts
returns-in-Get-clause-acts g c = λ objects. let is = c.in-Get.is in rw is (c.get.ensures objects)

pub returns-in-Put-clause-acts : goal.returns-in-Put-clause-acts
returns-in-Put-clause-acts g c = λ objects. let is = c.in-Put.is in rw is (c.put.ensures.acts objects)
