-- The expansion, equation by equation: "replaces every defined name by its body in full, instances included".
use mathlib.Core.List.{List}
use mathlib.Core.Path.{◌∙◌, ◌≡◌, ap, ap₂, refl, sym}
use lib.ListN.{length}
use Prim.Native.Nat.{◌+◌, ◌<◌, suc, ℕ}
use Rattle.demands.specs.LongWay.{Basic}
use Rattle.laws.specs.Cards.{name_at_params}
use Rattle.laws.proofs.Demand3.{brought-expansion, own-expansion}
use Rattle.laws.proofs.Invariant.{Good, good-file}
use Rattle.laws.proofs.Replacing.{expansion-of-name}
use Rattle.laws.proofs.Checks.{by-fields}
use Rattle.rules.specs.Run.{checked, result}
use Rattle.rules.specs.State.{State, definition_at, expansion_of, templates_of}
use Rattle.theory.specs.Expand.{body_in, brought, expand_head, instantiate, own, put_in, rebuild, rebuilds}
use Rattle.theory.specs.Level.{binds_in, plain}
use Rattle.theory.specs.Term.{Head, Kind, Term, Terms, binder, bound, builtin, declared, defined, leaf, param}
use Rattle.theory.specs.Tree.{◌▹◌, node, ⟨⟩}

-- each of some arguments expanded
abbrev pub expansions : State → Terms → Terms
expansions s ⟨⟩ = ⟨⟩
expansions s (t ▹ ts) = expansion_of s t ▹ expansions s ts

-- a term is expanded alike under any binders
module _ (s : State) where
  mutual
    anywhere : (t : Term) (d : ℕ) → rebuild (expand_head (body_in (templates_of s))) d t ≡ expansion_of s t
    anywhere (node (param i) ts) d = ap (node (param i)) (each ts d 0 (binds_in plain) (binds_in plain))
    anywhere (node (bound j) ts) d = ap (node (bound j)) (each ts d 0 (binds_in plain) (binds_in plain))
    anywhere (node (declared k x) ts) d = ap (node (declared k x)) (each ts d 0 (binds_in plain) (binds_in plain))
    anywhere (node (defined g) ts) d = ap (λ (us : Terms). put_in us (body_in (templates_of s) g)) (each ts d 0 (binds_in plain) (binds_in plain))
    anywhere (node (builtin c) ts) d = ap (node (builtin c)) (each ts d 0 (binds_in (binder (builtin c))) (binds_in (binder (builtin c))))
    anywhere (node (leaf l) ts) d = ap (node (leaf l)) (each ts d 0 (binds_in plain) (binds_in plain))

    each : (ts : Terms) (d e : ℕ) (b c : ℕ → ℕ)
        → rebuilds (expand_head (body_in (templates_of s))) d b ts ≡ rebuilds (expand_head (body_in (templates_of s))) e c ts
    each ⟨⟩ d e b c = refl
    each (t ▹ ts) d e b c = ap₂ ◌▹◌ (anywhere t (b 0 + d) ∙ sym (anywhere t (c 0 + e))) (each ts d e (λ i. b (suc i)) (λ i. c (suc i)))

  pub arguments : (ts : Terms) (d : ℕ) (b : ℕ → ℕ) → rebuilds (expand_head (body_in (templates_of s))) d b ts ≡ expansions s ts
  arguments ⟨⟩ d b = refl
  arguments (t ▹ ts) d b = ap₂ ◌▹◌ (anywhere t (b 0 + d)) (arguments ts d (λ i. b (suc i)))

  -- what is no defined name stays, with its arguments expanded
  pub basic-stays : (h : Head) (ts : Terms) → Basic h → expansion_of s (node h ts) ≡ node h (expansions s ts)
  basic-stays (param i) ts b = ap (node (param i)) (arguments ts 0 (binds_in plain))
  basic-stays (bound j) ts b = ap (node (bound j)) (arguments ts 0 (binds_in plain))
  basic-stays (declared k x) ts b = ap (node (declared k x)) (arguments ts 0 (binds_in plain))
  basic-stays (defined g) ts b = absurd b
  basic-stays (builtin c) ts b = ap (node (builtin c)) (arguments ts 0 (binds_in (binder (builtin c))))
  basic-stays (leaf l) ts b = ap (node (leaf l)) (arguments ts 0 (binds_in plain))

-- "Expansion replaces each defined name by its expanded body, arguments put in": in an accepted file
module _ (file memory : List ℕ) (s : State) (accepted : checked file memory ≡ result s) (g : ℕ) (l : g < length s.definitions) where
  good : Good s
  good = good-file file s (by-fields file memory s accepted)

  pub put-in : (ts : Terms) → expansion_of s (node (defined g) ts) ≡ put_in (expansions s ts) (expansion_of s (name_at_params s g))
  put-in ts = ap₂ put_in (arguments s ts 0 (binds_in plain)) (sym (expansion-of-name s good g l))

  pub own_body : (n : ℕ) (t : Term) → (definition_at s g).meaning ≡ own n t → expansion_of s t ≡ body_in (templates_of s) g
  own_body n t e = sym (own-expansion file memory s accepted g n t l e) ∙ expansion-of-name s good g l

  pub brought-body : (p h : ℕ) (σ : Kind → ℕ → Term) → h < length s.definitions → (definition_at s g).meaning ≡ brought p σ h
      → instantiate (λ k x. expansion_of s (σ k x)) p (expansion_of s (name_at_params s h)) ≡ body_in (templates_of s) g
  brought-body p h σ k e = sym (brought-expansion file memory s accepted g p h σ l k e) ∙ expansion-of-name s good g l

  -- a definition of the module: its body in full, the arguments put in
  pub own-replaced : (n : ℕ) (t : Term) → (definition_at s g).meaning ≡ own n t
      → (ts : Terms) → expansion_of s (node (defined g) ts) ≡ put_in (expansions s ts) (expansion_of s t)
  own-replaced n t e ts = put-in ts ∙ ap (put_in (expansions s ts)) (own-expansion file memory s accepted g n t l e)

  -- "I!F expands to F's expansion in its module with every declared name substituted": p parameters of the instance, substitutes σ, F number h
  pub brought-replaced : (p h : ℕ) (σ : Kind → ℕ → Term) → h < length s.definitions → (definition_at s g).meaning ≡ brought p σ h
      → (ts : Terms) → expansion_of s (node (defined g) ts) ≡ put_in (expansions s ts) (instantiate (λ k x. expansion_of s (σ k x)) p (expansion_of s (name_at_params s h)))
  brought-replaced p h σ k e ts = put-in ts ∙ ap (put_in (expansions s ts)) (brought-expansion file memory s accepted g p h σ l k e)
