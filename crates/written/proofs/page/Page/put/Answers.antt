use Rattle.std.proofs.Common.{◌<◌, length, sym, ap, arith}
use Rattle.std.proofs.lemmas.List.{take_more}
use Rattle.written.specs.declared.page.Page.{Page}
use Rattle.written.proofs.Putting.{puts_then, puts_as, puts_here, puts_past}
use Rattle.written.proofs.page.Page.put.Goals as goal
use Rattle.written.proofs.page.Page.put.Goals.{then-self, else-self}

pub loop-byte-preserved : goal.loop-byte-preserved
loop-byte-preserved c =
    let within : c.loop-byte.byte-index < length c.args.text.now = omega arith in
    puts_as (sym (take_more c.args.text.now c.loop-byte.byte-index 0 within)) (puts_then c.loop-byte.invariant (elim c.if-self.branch [
      | then-self w ↦ puts_here c.loop-byte.self c.if-self.self _ (ap (λ (p : Page). p.at) w.self-is) (ap (λ (p : Page). p.bytes.now) w.self-is) (ap (λ (p : Page). p.bytes.ghost_name) w.self-is)
      | else-self w ↦ puts_past _ _ _ w.self-is w.if-self.false
    ]))
