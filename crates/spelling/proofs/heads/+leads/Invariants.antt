use Rattle.spelling.proofs.heads.+leads.Given as goal

abbrev pub decreases-leads : goal.decreases-leads
decreases-leads l = l.p
