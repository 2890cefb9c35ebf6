-- The level that is found for a declaration is its substitute's by the rules.
use borrow.Author.Tests.{ltb-false}
use mathlib.Core.Bool.{Bool, ◌&&◌, cond, false, true}
use mathlib.Core.List.{List, [], ◌∷◌}
use mathlib.Core.Path.{◌∙◌, ◌≡◌, ap, ap₂, refl, sym}
use lib.Dec.{eqb, ltb}
use lib.ListN.{get_or, get_or-replicate, length, length-replicate}
use native.Mathlib.Nat.{zero-add}
use native.Mathlib.Omega.{arith}
use Prim.Native.Nat.{◌+◌, ◌-◌, ◌<◌, ◌≤◌, suc, zero, ℕ}
use Rattle.forms.specs.Forms.{Gives, level_at, width}
use Rattle.entering.specs.Implied.{implied_level}
use Rattle.laws.proofs.Formats.{some-injective}
use Rattle.laws.proofs.Invariant.{Good, arity-known}
use Rattle.laws.proofs.Replacing.{known-below}
use Rattle.laws.proofs.Sound.{length-templates}
use Rattle.levels.specs.Tables.{names_of, scene_of}
use Rattle.levels.specs.Walk.{TextForm}
use Rattle.limits.specs.Limits.{max_definitions}
use Rattle.rules.specs.State.{State, card_level, level_of, templates_of, zeros}
use Rattle.standing.specs.Shown.{TextShown}
use Rattle.standing.specs.Standing.{itselves}
use Rattle.text_levels.proofs.OwnWorld.{Shows, own-level}
use Rattle.texts.specs.Text.{Declarations, named, no_declaration, ref_head}
use Rattle.theory.specs.Level.{IsLevel, binds_in, highest, incorrect, plain, top}
use Rattle.theory.proofs.Lists.{replicate-all}
use Rattle.theory.specs.Expand.{arities_of, itself, params_from}
use Rattle.theory.specs.Lists.{All, any, param_levels}
use Rattle.theory.specs.Term.{Fits, Kind, Reading, Term, WellFormed, by_cards, declared, declared_level, defined, evals, kind_arity}

pub zeros-length : (n : ℕ) → length (zeros n) ≡ n
zeros-length n = length-replicate n 0

pub zeros-low : (n : ℕ) → All IsLevel (zeros n)
zeros-low n = replicate-all IsLevel n 0 (omega arith)

zeros-at : (n i : ℕ) → get_or (zeros n) i 0 ≡ 0
zeros-at zero i = refl
zeros-at (suc n) zero = refl
zeros-at (suc n) (suc i) = zeros-at n i

params-zero : (n i k : ℕ) → param_levels i k (zeros n) ≡ zeros k
params-zero n i zero = refl
params-zero n i (suc k) = ap₂ ◌∷◌ (zeros-at n i) (params-zero n (suc i) k)

evals-zero : (M : Reading ℕ) (n i k : ℕ) (β : List ℕ) (u : ℕ) (b : ℕ → ℕ) → i + k ≤ n → evals M (zeros n) β u b (params_from i k) ≡ zeros k
evals-zero M n i zero β u b h = refl
evals-zero M n i (suc k) β u b h =
    ap₂ ◌∷◌ (get_or-replicate n i 0 M.unknown (omega arith)) (evals-zero M n (suc i) k β u (λ j. b (suc j)) (omega arith))

top-zero : (n : ℕ) → top (zeros n) ≡ 0
top-zero zero = refl
top-zero (suc n) = let h = top-zero n in omega arith

no-two : (n : ℕ) → any (eqb 2) (zeros n) ≡ false
no-two zero = refl
no-two (suc n) = no-two n

pub highest-zero : (n : ℕ) → highest (zeros n) ≡ 0
highest-zero n = ap₂ (λ (b : Bool) (l : ℕ). cond (b && any (eqb 3) (zeros n)) incorrect l) (no-two n) (top-zero n)

module _ (words : List ℕ) (decls : Declarations) (s : State) (good : Good s) (forms : Shows (scene_of itselves words) decls s) where
  -- a substitute that is written
  pub written-zero : (file refs : List ℕ) (end at n : ℕ) (u : Term) (f : ℕ) → TextShown file refs decls end at u → TextForm (names_of refs itselves words 0) file at f
      → WellFormed (arities_of (templates_of s)) n 0 u → n ≤ width → level_at f (zeros n) ≡ level_of s (zeros n) u
  written-zero file refs end at n u f t form formed short =
      form.level t.text t.next t.stands (zeros n) (rw (zeros-length n) short) (zeros-low n)
      ∙ own-level refs decls (scene_of itselves words) s good forms n (zeros n) (zeros-length n ∙ sym (zero-add n)) (zeros-low n) t.text u t.below t.same formed

  -- one that is implied: the operator r at the parameters after p
  pub implied-zero : (r p : ℕ) (k : Kind) (f : ℕ) → Gives f (implied_level itselves words r 0 p (kind_arity k)) → r < max_definitions + length decls
      → Fits (arities_of (templates_of s)) (p + kind_arity k) 0 (ref_head decls r) (kind_arity k) → p + kind_arity k ≤ width
      → level_at f (zeros (p + kind_arity k)) ≡ level_of s (zeros (p + kind_arity k)) (itself p k (ref_head decls r))
  unfolding implied_level
  implied-zero r p k f g below fits short =
      g.at (zeros (p + kind_arity k)) (rw (zeros-length (p + kind_arity k)) short) (zeros-low (p + kind_arity k))
      ∙ ap (named (scene_of itselves words) r) (ap (λ (i : ℕ). param_levels i (kind_arity k) (zeros (p + kind_arity k))) (zero-add p) ∙ params-zero (p + kind_arity k) p (kind_arity k))
      ∙ go (ltb r max_definitions) refl fits
    where
      args : evals (by_cards (card_level s)) (zeros (p + kind_arity k)) [] incorrect (binds_in plain) (params_from p (kind_arity k)) ≡ zeros (kind_arity k)
      args = evals-zero (by_cards (card_level s)) (p + kind_arity k) p (kind_arity k) [] incorrect (binds_in plain) (omega arith)

      go : (b : Bool) → ltb r max_definitions ≡ b
          → Fits (arities_of (templates_of s)) (p + kind_arity k) 0
          (cond b (defined r) (declared (get_or decls (r - max_definitions) no_declaration).0 (get_or decls (r - max_definitions) no_declaration).1)) (kind_arity k)
          → cond b ((scene_of itselves words).definitions r (zeros (kind_arity k))) ((scene_of itselves words).declarations (r - max_definitions) (zeros (kind_arity k)))
          ≡ level_of s (zeros (p + kind_arity k))
          (itself p k (cond b (defined r) (declared (get_or decls (r - max_definitions) no_declaration).0 (get_or decls (r - max_definitions) no_declaration).1)))
      go true e w =
          let l : r < length s.definitions = omega (arith, known-below (templates_of s) r (kind_arity k) w, length-templates [] s.definitions) in
          forms.definitions r (zeros (kind_arity k)) l (zeros-length (kind_arity k) ∙ some-injective (sym w ∙ arity-known s good.sound r l)) (zeros-low (kind_arity k))
          ∙ ap (card_level s r) (sym args)
      go false e w =
          forms.declarations (r - max_definitions) (zeros (kind_arity k)) (omega (arith, ltb-false r max_definitions e)) (zeros-length (kind_arity k) ∙ w) (zeros-low (kind_arity k))
          ∙ ap (declared_level (get_or decls (r - max_definitions) no_declaration).0 (get_or decls (r - max_definitions) no_declaration).1) (sym args)

  -- a name that stands for itself in no instance: 0 or, of a variable, 1
  pub itself-zero : (p : ℕ) (k : Kind) (x : ℕ) → level_of s (zeros (p + kind_arity k)) (itself p k (declared k x)) ≡ declared_level k x (zeros (kind_arity k))
  itself-zero p k x = ap (declared_level k x) (evals-zero (by_cards (card_level s)) (p + kind_arity k) p (kind_arity k) [] incorrect (binds_in plain) (omega arith))
