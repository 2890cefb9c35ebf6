-- A reading of the theory, over an expression with its names found, is a fold over the expression; so is the level by the cards.
-- Assumes nothing.
use mathlib.Core.Path.{◌≡◌, refl, sym, ap, ap₂, ◌∙◌}
use mathlib.Core.List.{List, [], ◌∷◌, ◌++◌}
use mathlib.Core.Option.{Option, none, some}
use Prim.Native.Nat.{ℕ, zero, suc}
use lib.ListN.{replicate}
use Rattle.theory.specs.Lists.{or_else, bind_option, map_option}
use Rattle.theory.specs.Tree.{Trees, node, ⟨⟩, ◌▹◌, map_tree, map_trees}
use Rattle.theory.specs.Level.{plain, binds_in, bound_level, builtin_level}
use Rattle.theory.specs.Term.{Head, param, bound, declared, defined, builtin, leaf, literal, binder, Reading, meaning, eval, evals, by_cards}
use Rattle.rules.specs.Expression.{Token, parameter, bound_variable, operator, instance_operator, built_in, numeral, token_binder, Expression}
use Rattle.rules.specs.State.{State, Context, Entry, declares, defines, instances, entry_of_name, operator_of, brought_named, card_level, resolve, level_of}
use Rattle.agree.specs.Folds.{within, fold_of, folds_of}
use Rattle.agree.specs.Levels.{variable_of, evaluating, head_in, levelling}

within_more : {A : Type 0} (n : ℕ) (v : A) (β : List A) → within n (λ l. v ∷ l) β ≡ replicate n v ++ β
within_more zero v β = refl
within_more (suc n) v β = ap (λ l. v ∷ l) (within_more n v β)

module _ {A : Type 0} (M : Reading A) (var : ℕ → A) (of_code : ℕ → List A → A) (code : (c : ℕ) (args : A → List A) → M.on_builtin c args ≡ of_code c (args (var c)))
    (head : Token → Head) (binds : (t : Token) → binder (head t) ≡ token_binder t) (ρ : List A) where
  -- a head looks at its arguments only at the meaning of its own variable
  at-variable : (h : Head) (β : List A) (args : A → List A) (vs : List A) → args (variable_of M var h) ≡ vs → meaning M ρ β h args ≡ meaning M ρ β h (λ v. vs)
  at-variable (param i) β args vs e = refl
  at-variable (bound j) β args vs e = refl
  at-variable (declared k x) β args vs e = ap (M.on_declared k x) e
  at-variable (defined g) β args vs e = ap (M.on_defined g) e
  at-variable (builtin c) β args vs e = code c args ∙ ap (of_code c) e ∙ sym (code c (λ v. vs))
  at-variable (leaf l) β args vs e = refl

  mutual
    pub eval-folds : (β : List A) (e : Expression) → eval M ρ β (map_tree head e) ≡ fold_of (evaluating M var head ρ) β e
    eval-folds β (node t es) =
        let v = variable_of M var (head t) in
        let σ : ℕ → List A = λ i. within (binds_in (token_binder t) i) (λ l. v ∷ l) β in
        at-variable (head t) β (λ w. evals M ρ β w (binds_in (binder (head t))) (map_trees head es)) (folds_of (evaluating M var head ρ) σ es)
        (evals-fold β v (binds_in (binder (head t))) σ es
        (λ i. ap (λ b. replicate (binds_in b i) v ++ β) (binds t) ∙ sym (within_more (binds_in (token_binder t) i) v β)))

    evals-fold : (β : List A) (v : A) (s : ℕ → ℕ) (σ : ℕ → List A) (es : Trees Token) → ((i : ℕ) → replicate (s i) v ++ β ≡ σ i)
        → evals M ρ β v s (map_trees head es) ≡ folds_of (evaluating M var head ρ) σ es
    evals-fold β v s σ ⟨⟩ h = refl
    evals-fold β v s σ (e ▹ es) h =
        ap₂ (λ (x : A) (xs : List A). x ∷ xs) (ap (λ (l : List A). eval M ρ l (map_tree head e)) (h 0) ∙ eval-folds (σ 0) e)
        (evals-fold β v (λ i. s (suc i)) (λ i. σ (suc i)) es (λ i. h (suc i)))

-- a name binds nothing, whatever it stands for
operator-plain : (o : Option Entry) → binder (or_else (leaf (literal 0)) (bind_option o operator_of)) ≡ plain
operator-plain none = refl
operator-plain (some (declares n k f)) = refl
operator-plain (some (defines n g)) = refl
operator-plain (some (instances n f bs)) = refl

brought-plain : (o : Option ℕ) → binder (or_else (leaf (literal 0)) (map_option defined o)) ≡ plain
brought-plain none = refl
brought-plain (some g) = refl

head-binds : (s : State) (Γ : Context) (t : Token) → binder (head_in s Γ t) ≡ token_binder t
head-binds s Γ (parameter i) = refl
head-binds s Γ (bound_variable j) = refl
head-binds s Γ (operator n k) = operator-plain (entry_of_name n Γ)
head-binds s Γ (instance_operator i f k) = brought-plain (brought_named s Γ i f)
head-binds s Γ (built_in c) = refl
head-binds s Γ (numeral v) = refl

-- The level of an expression in a context, by the cards, is a fold over the expression: `worth-in-file` has it of a walk.
pub level-folds : (s : State) (Γ : Context) (ρ : List ℕ) (e : Expression) → level_of s ρ (resolve s Γ e) ≡ fold_of (levelling s Γ ρ) [] e
level-folds s Γ ρ e = eval-folds (by_cards (card_level s)) bound_level builtin_level (λ c args. refl) (head_in s Γ) (head-binds s Γ) ρ [] e
