-- What the loop of `decimal` keeps: the value of the digits before it. Assumes nothing.
use Rattle.std.proofs.Common.{◌≡◌, ◌^◌, ◌<◌, drop, Ok}
use Rattle.layout.specs.Layout.{digits_after}
use Rattle.plan.proofs.fields.decimal.Given as goal

abbrev pub invariant-loop-byte : goal.invariant-loop-byte
invariant-loop-byte l = (digits_after (Ok l.value) (drop l.byte-index l.field) ≡ digits_after (Ok 0) l.field) × (l.value < 10 ^ l.byte-index)
