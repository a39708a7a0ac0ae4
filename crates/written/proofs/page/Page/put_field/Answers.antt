use Rattle.written.proofs.Putting.{puts_then}
use Rattle.written.proofs.page.Page.put_field.Goals as goal

pub returns-clause-put : goal.returns-clause-put
returns-clause-put c = puts_then c.put_number.ensures.put c.put.ensures
