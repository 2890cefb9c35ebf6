use Rattle.spelling.proofs.Showing.{text-string}
use Rattle.spelling.proofs.text_string.Goals as goal

pub returns : goal.returns
returns c = text-string _ _ _ _ _ _ _ _ _ _ _ _ _ (λ i. (c.type_inv.s i).fits) c.names_fit.ensures c.write_expr-a.ensures
