use Rattle.cms_host.proofs.read_ahead.read_front.Goals as goal

pub slice_bounds-read_at-end : goal.slice_bounds-read_at-end
slice_bounds-read_at-end g c = c.requires

pub returns-clause-told : goal.returns-clause-told
returns-clause-told g c = c.read_at.ensures.told

pub returns-clause-files : goal.returns-clause-files
returns-clause-files g c = c.read_at.ensures.files
