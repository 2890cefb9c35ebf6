-- What the names of a text were resolved to, by what its term names.
use borrow.Author.Tests.{ltb-false}
use mathlib.Core.Bool.{Bool, cond, false, true}
use mathlib.Core.List.{List}
use mathlib.Core.Path.{◌≡◌, refl}
use lib.Dec.{ltb}
use lib.ListN.{get_or, length}
use native.Mathlib.Omega.{arith}
use Prim.Native.Nat.{◌+◌, ◌-◌, ◌<◌, suc, ℕ}
use Rattle.limits.specs.Limits.{max_definitions}
use Rattle.theory.specs.Level.{binds_in}
use Rattle.theory.specs.Term.{Every, Everys, Kind, binder, declared, defined}
use Rattle.theory.specs.Tree.{◌▹◌, count, map_trees, node, ⟨⟩}
use Rattle.tokens.specs.Expr.{Expr, Exprs, Placed}
use Rattle.tokens.specs.declared.Token.{Token}
use Rattle.tokens.specs.declared.Token.TheVariants.{Parameter, Bound, Name, InstanceOperator, BuiltIn, Literal}
use Rattle.texts.specs.Noted.{is_name}
use Rattle.texts.specs.Text.{Declarations, no_declaration, ref_head, shown, token_head}
use Rattle.text_levels.proofs.OwnWorld.{AllRefsBelow, RefsBelow}
use Rattle.worlds.specs.World.{AnyDefinition, AnyName, HeadMentions, Names, Uses}
use Rattle.entering.specs.Shows.{OneOf, Resolved, TextNames, TextsName, TokenNames}

-- the declarations, by number, whose kind and name have N
abbrev pub Numbered : Declarations → (Kind → ℕ → Type 0) → ℕ → Type 0
Numbered decls N d = (d < length decls) × N (get_or decls d no_declaration).0 (get_or decls d no_declaration).1

module _ (refs : List ℕ) (decls : Declarations) (N : Kind → ℕ → Type 0) (F : ℕ → Type 0) where
  pub resolved : (r k m : ℕ) → r < max_definitions + length decls → HeadMentions N AnyDefinition k (ref_head decls r) m → HeadMentions AnyName F k (ref_head decls r) m
      → Resolved (Numbered decls N) F r
  resolved r k m below names uses = go (ltb r max_definitions) refl names uses
    where
      go : (b : Bool) → ltb r max_definitions ≡ b
          → HeadMentions N AnyDefinition k (cond b (defined r) (declared (get_or decls (r - max_definitions) no_declaration).0 (get_or decls (r - max_definitions) no_declaration).1)) m
          → HeadMentions AnyName F k (cond b (defined r) (declared (get_or decls (r - max_definitions) no_declaration).0 (get_or decls (r - max_definitions) no_declaration).1)) m
          → OneOf b (Numbered decls N) F r
      go true e n u = u
      go false e n u = (omega (arith, ltb-false r max_definitions e), n)

  token-names : (t : Token) (at k m : ℕ) → (is_name t ≡ true → get_or refs at 0 < max_definitions + length decls)
      → HeadMentions N AnyDefinition k (token_head refs decls at t) m → HeadMentions AnyName F k (token_head refs decls at t) m → TokenNames (Numbered decls N) F refs at t
  token-names (Parameter i) at k m b n u = tt
  token-names (Bound j) at k m b n u = tt
  token-names (Name x a) at k m b n u = resolved (get_or refs at 0) k m (b refl) n u
  token-names (InstanceOperator i x a) at k m b n u = resolved (get_or refs at 0) k m (b refl) n u
  token-names (BuiltIn c) at k m b n u = tt
  token-names (Literal x) at k m b n u = tt

  mutual
    names_at : (t : Expr) (k : ℕ) → RefsBelow (max_definitions + length decls) refs t → Every (HeadMentions N AnyDefinition) k (shown refs decls t)
        → Every (HeadMentions AnyName F) k (shown refs decls t) → TextNames (Numbered decls N) F refs t
    names_at (node h ts) k b n u = (
      token-names h.token h.at k (count (map_trees (λ (h : Placed). token_head refs decls h.at h.token) ts)) b.0 n.0 u.0,
      all-names-at ts k (binds_in (binder (token_head refs decls h.at h.token))) b.1 n.1 u.1,
    )

    all-names-at : (ts : Exprs) (k : ℕ) (c : ℕ → ℕ) → AllRefsBelow (max_definitions + length decls) refs ts
        → Everys (HeadMentions N AnyDefinition) k c (map_trees (λ (h : Placed). token_head refs decls h.at h.token) ts)
        → Everys (HeadMentions AnyName F) k c (map_trees (λ (h : Placed). token_head refs decls h.at h.token) ts) → TextsName (Numbered decls N) F refs ts
    all-names-at ⟨⟩ k c b n u = tt
    all-names-at (t ▹ ts) k c b n u = (names_at t (c 0 + k) b.0 n.0 u.0, all-names-at ts k (λ i. c (suc i)) b.1 n.1 u.1)

  -- a text whose term names only declarations with N and definitions with F
  pub text-names : (t : Expr) → RefsBelow (max_definitions + length decls) refs t → Names N (shown refs decls t) → Uses F (shown refs decls t)
      → TextNames (Numbered decls N) F refs t
  text-names t b n u = names_at t 0 b n u
