-- What the loop of `lay_plan` keeps: the tracks that are laid and what is left to read are the plan. Assumes nothing.
use Rattle.layout.specs.Layout.{lines}
use Rattle.layout.specs.Plans.{plan_of}
use Rattle.layout.proofs.Walks.{Going}
use Rattle.table.specs.Laying.{table_tracks}
use Rattle.plan.specs.Unread.{unread}
use Rattle.std.proofs.Common.{length}
use Rattle.plan.proofs.lay_plan.Given as goal

abbrev pub invariant-loop-line : goal.invariant-loop-line
invariant-loop-line l = Going (plan_of l.bytes) (table_tracks l.table) (lines (unread l.reader)) l.reader.place l.reader.number

abbrev pub decreases-loop-line : goal.decreases-loop-line
decreases-loop-line l = length (lines (unread l.reader))
