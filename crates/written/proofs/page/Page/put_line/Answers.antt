use Rattle.written.proofs.Putting.{puts_then, puts_as}
use Rattle.written.proofs.Rows.{line_pieces}
use Rattle.written.proofs.page.Page.put_line.Goals as goal

pub returns-clause-put : goal.returns-clause-put
returns-clause-put c =
    puts_as (line_pieces c.args.number c.args.track c.args.mark)
    (puts_then c.put_field.ensures.put
    (puts_then c.put_field-2.ensures.put
    (puts_then c.put_field-3.ensures.put
    (puts_then (puts_as c.mark_word.ensures c.put.ensures)
    (puts_then c.put-2.ensures
    (puts_then c.put_lead.ensures.put c.put-3.ensures))))))
