use Rattle.fields.proofs.Substituting.{fits-over, fits-short, fits_whole, fits-zero}
use Rattle.fields.proofs.substitutions.substitution_fits.Goals as goal

pub returns-then-p-at-lt4 : goal.returns-then-p-at-lt4
returns-then-p-at-lt4 c = search (fits-short, fits-zero, fits-over, fits_whole)

pub returns-then-number_at-eq0 : goal.returns-then-number_at-eq0
returns-then-number_at-eq0 c = search (fits-short, fits-zero, fits-over, fits_whole)

pub returns-then-p-a : goal.returns-then-p-a
returns-then-p-a c = search (fits-short, fits-zero, fits-over, fits_whole)

pub returns : goal.returns
returns c = search (fits-short, fits-zero, fits-over, fits_whole)
