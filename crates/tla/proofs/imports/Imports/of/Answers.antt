use Rattle.std.proofs.Common.{rules, ◌≤◌, length, slice_index_or}
use Rattle.tla.proofs.EndedSegments.{imports_are, first_below, last_below}
use Rattle.tla.proofs.imports.Imports.of.Goals as goal
use Rattle.tla.proofs.imports.Imports.of.Goals.{After-first}

module _ (g : _) (c : After-first g) where
  low : c.first.result ≤ slice_index_or c.args.self.now.ends.now c.args.m 0
  low = first_below (g.S.ModuleSource.meaning c.args.self.now.source.now) c.args.self.now.ends.now c.args.self.now.arrows.now c.args.self.now.laid c.args.m c.requires c.first.result c.first.ensures

  high : slice_index_or c.args.self.now.ends.now c.args.m 0 ≤ length c.args.self.now.arrows.now
  high = last_below (g.S.ModuleSource.meaning c.args.self.now.source.now) c.args.self.now.ends.now c.args.self.now.arrows.now c.args.self.now.laid c.args.m c.requires c.first.result c.first.ensures

pub offset_bounds-self-first : goal.offset_bounds-self-first
offset_bounds-self-first g c = let l = low g (goal.at.offset_bounds-self-first g c).After-first in let h = high g (goal.at.offset_bounds-self-first g c).After-first in search rules

pub slice_bounds-result-count : goal.slice_bounds-result-count
slice_bounds-result-count g c = low g (goal.at.slice_bounds-result-count g c).After-first

pub slice_bounds-result-start : goal.slice_bounds-result-start
slice_bounds-result-start g c = let l = low g (goal.at.slice_bounds-result-start g c).After-first in let h = high g (goal.at.slice_bounds-result-start g c).After-first in search rules

pub slice_bounds-result-end : goal.slice_bounds-result-end
slice_bounds-result-end g c = let h = high g (goal.at.slice_bounds-result-end g c).After-first in search rules

pub returns : goal.returns
returns g c = imports_are (g.S.ModuleSource.meaning c.args.self.now.source.now) c.args.self.now.ends.now c.args.self.now.arrows.now c.args.self.now.laid c.args.m c.requires c.first.result c.first.ensures
