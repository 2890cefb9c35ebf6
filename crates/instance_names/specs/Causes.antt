-- What the judging functions answer, over the store.
use Rattle.std.specs.Prelude.{Bool, ◌||◌, List, [], ◌∷◌, ◌≡◌, ℕ, leb}
use Rattle.rules.specs.Judge.{Cause, first_cause}
use Rattle.context.specs.Parts.{part, place_of}
use Rattle.context.specs.Entries.{context_codes}
use Rattle.judge_plain.specs.Causes.{early}
use Rattle.judge_plain.specs.Judges.{cause_number}
use Rattle.judge_plain.specs.declared.Phase.{Phase}
use Rattle.instance_names.specs.Looking.{LooksEach}
use Rattle.instance_names.specs.Sites.{miscounted_among, unknown_among, clashes_at, over_limits, repeated_from, starts, undeclared_in}
use Rattle.instance_names.specs.declared.Site.{Site}
use Rattle.store.specs.declared.Facts.{Facts}

-- the field of module m, of p parameters, with k substitutions from a position on, so many modules being ended
abbrev pub site : List ℕ → ℕ → ℕ → ℕ → ℕ → ℕ → Site
site heads modules p m k at = record { params = p; count = k; at = at; source = place_of m (part heads 0 modules); modules = modules }

-- The causes by the tests of the code, in the order of the rules: 4, 5, 7, 8;
unfoldable pub first_causes : List ℕ → List ℕ → List Facts → List ℕ → List ℕ → List ℕ → Phase → ℕ → Site → ℕ → List Cause
first_causes file names facts contexts orders heads phase definitions x n =
    (4, early phase 6)
    ∷ (5, over_limits file names facts contexts orders heads x definitions)
    ∷ (7, leb x.modules x.source)
    ∷ (8, clashes_at names contexts heads x n)
    ∷ []

-- 9, 10, 11, u and w being what the walks over the substitutions say.
unfoldable pub name_causes : List ℕ → List ℕ → List Facts → List ℕ → List ℕ → Site → Bool → Bool → List Cause
name_causes file names facts contexts heads x u w =
    (9, u || unknown_among file names facts contexts heads x (context_codes contexts heads x.source))
    ∷ (10, w || miscounted_among file names facts contexts heads x (context_codes contexts heads x.source))
    ∷ (11, undeclared_in file names facts contexts heads x x.count x.at || repeated_from file x.count x.at)
    ∷ []

-- the number of the first that holds, 0 if none does
abbrev pub first_number : List Cause → ℕ
first_number cs = cause_number (first_cause cs)

pub record NameCauses (file names : List ℕ) (facts : List Facts) (contexts heads : List ℕ) (x : Site) (refs refs' : List ℕ) (r : ℕ) : Type 0 where
  pub u : Bool
  pub w : Bool
  pub looks : LooksEach file names facts contexts heads x (starts x.count file x.at) refs refs' u w
  pub cause : r ≡ first_number (name_causes file names facts contexts heads x u w)
