-- The causes that come after the names. 12, 14 and 21 code by code: the level, with parameters at 0, of what stands for each declaration of the module
-- instanced.
use Rattle.std.specs.Prelude.{Bool, ◌&&◌, ◌||◌, false, not, true, List, [], ◌∷◌, ◌≡◌, ℕ, eqb, get_or}
use Rattle.context.proofs.Judging.{kind_answered, kind_of}
use Rattle.context.specs.Lookup.{as_code, declared_named, instance_among, is_declared, operator_in}
use Rattle.store.specs.Store.{kind_at}
use Rattle.store.specs.declared.Facts.{Facts}
use Rattle.std.specs.Prelude.{Option as Answer}
use Rattle.context.specs.declared.Operator.{Operator}
use Rattle.entering.specs.Substitutes.{Around, Stands}
use Rattle.entering.specs.declared.substitutes.Site.{Site}
use Rattle.forms.specs.Forms.{level_at}
use Rattle.instance_names.specs.Causes.{first_number}
use Rattle.rules.specs.Instance.{is_kind, lawful}
use Rattle.rules.specs.Judge.{Cause}
use Rattle.rules.specs.State.{zeros}
use Rattle.theory.specs.Level.{verdict}
use Rattle.theory.specs.Lists.{All, any}
use Rattle.theory.specs.Term.{Kind}
use Rattle.judge_instance.specs.Constancy.{constant_codes}
use Rattle.judge_instance.specs.declared.lawful.Seen.{Seen}

-- a kind is the one that a name is declared as
unfoldable pub answers : ℕ → Answer Operator → Bool
answers kind x = is_kind (kind_of kind) (kind_answered x)

-- o is a declaration, and its name is declared among the codes as what o is
unfoldable pub own_kind : List ℕ → List Facts → List ℕ → ℕ → Bool
own_kind names facts codes o = is_declared facts o && answers (kind_at facts o) (operator_in facts (as_code (declared_named names facts (get_or names o 0) codes)))

-- a level is that of what stands for o
pub record Stood (a : Around) (site : Site) (o l : ℕ) : Type 0 where
  pub form : ℕ
  pub stands : Stands a site o form
  pub level : (n : ℕ) → l ≡ level_at form (zeros n)

-- The level of what stands for o; 0 of another code.
pub record LevelFound (a : Around) (site : Site) (codes : List ℕ) (o l : ℕ) : Type 0 where
  pub own : own_kind a.names a.facts codes o ≡ true → Stood a site o l
  pub other : own_kind a.names a.facts codes o ≡ false → l ≡ 0

-- a constant in a constant module takes every level but 4
unfoldable pub is_free : Bool → ℕ → Bool
is_free constant kind = eqb kind 0 && constant

-- What is asked of a level that stands for a declaration of a kind: whether it is 4; whether it is not lawful, the module instanced being constant
-- or not; whether it is n.
abbrev pub is_incorrect : Kind → ℕ → Bool
is_incorrect k l = verdict l

abbrev pub is_unlawful : Bool → Kind → ℕ → Bool
is_unlawful constant k l = not (lawful constant k l)

abbrev pub is_at : ℕ → Kind → ℕ → Bool
is_at n k l = eqb n l

-- r says whether what is asked, p, holds for one of the codes cs: whatever test says what the levels say, r is that test of all
pub record Tested (a : Around) (site : Site) (codes : List ℕ) (p : Kind → ℕ → Bool) (cs : List ℕ) (r : Bool) : Type 0 where
  pub says : (t : ℕ → Bool) → All (λ o. (l : ℕ) → LevelFound a site codes o l → t o ≡ p (kind_of (kind_at a.facts o)) l) cs → r ≡ any t cs

-- what is seen of the codes cs
pub record LevelsSeen (a : Around) (site : Site) (codes : List ℕ) (constant : Bool) (cs : List ℕ) (r : Seen) : Type 0 where
  pub incorrect : Tested a site codes is_incorrect cs r.incorrect
  pub unlawful : Tested a site codes (is_unlawful constant) cs r.unlawful
  pub transition : Tested a site codes (is_at 2) cs r.transition
  pub temporal : Tested a site codes (is_at 3) cs r.temporal

-- what was seen, with one level more
unfoldable pub seen_with : Bool → Seen → Kind → ℕ → Seen
seen_with constant seen k l =
    record {
      incorrect = seen.incorrect || is_incorrect k l;
      unlawful = seen.unlawful || is_unlawful constant k l;
      transition = seen.transition || is_at 2 k l;
      temporal = seen.temporal || is_at 3 k l;
    }

unfoldable pub is_mixed : Bool → Seen → Bool
is_mixed constant seen = constant && (seen.transition && seen.temporal)

-- The causes after the names by the tests of the code, in the order of the rules; `named` says whether the module instanced has a named instance.
unfoldable pub later_causes : Bool → Seen → Bool → List Cause
later_causes constant seen named =
    (12, seen.incorrect)
    ∷ (14, seen.unlawful)
    ∷ (21, is_mixed constant seen)
    ∷ (16, named)
    ∷ []

pub record LaterJudged (a : Around) (site : Site) (codes gs : List ℕ) (r : ℕ) : Type 0 where
  pub constant : Bool
  pub seen : Seen
  pub named : Bool
  pub constancy : constant ≡ constant_codes a.words a.facts codes gs
  pub levels : LevelsSeen a site codes constant codes seen
  pub instances : named ≡ instance_among a.facts codes
  pub cause : r ≡ first_number (later_causes constant seen named)
