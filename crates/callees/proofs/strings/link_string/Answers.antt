-- `strings::link_string`.
use mathlib.Core.Path.{◌∙◌, sym}
use Rattle.chains.proofs.Along.{has-link, step-link}
use Rattle.callees.proofs.Telling.{link-none, link-there}
use borrow.Author.Rules.{rules}
use Rattle.callees.proofs.strings.link_string.Goals as goal

pub code_of-o-requires : goal.code_of-o-requires
code_of-o-requires c = (search rules, has-link _ _ _ (sym c.step_fits.ensures ∙ c.if-step_fits.true))

pub site_of-site-requires : goal.site_of-site-requires
site_of-site-requires c = (search rules, search rules, step-link _ _ _ _ c.code_of-o.ensures.0 (sym c.step_fits.ensures ∙ c.if-step_fits.true))

pub returns-then-step_fits : goal.returns-then-step_fits
returns-then-step_fits c = link-there _ _ _ _ _ _ _ _ _ _ _ _ _ _ _ c.code_of-o.ensures.0 c.site_of-site.ensures.same c.substitute_string.ensures

pub returns : goal.returns
returns c = link-none _ _ _ _ _ _ _ _ _ _ _ _ _ (sym c.step_fits.ensures ∙ c.if-step_fits.false)
