-- The level of a text of the module that is judged, by tables that hold the cards of the definitions so far, is its level by the rules.
use borrow.Author.Tests.{ltb-false}
use mathlib.Core.Bool.{Bool, cond, false, true}
use mathlib.Core.List.{List, []}
use mathlib.Core.Path.{◌∙◌, ◌≡◌, ap, refl, subst, sym}
use lib.Dec.{ltb}
use lib.ListN.{get_or, length}
use native.Mathlib.Omega.{arith}
use Prim.Native.Nat.{◌+◌, ◌-◌, ◌<◌, suc, ℕ}
use Rattle.laws.proofs.Formats.{some-injective}
use Rattle.laws.proofs.Invariant.{Good, arity-known}
use Rattle.laws.proofs.Replacing.{cards-keep, known-below}
use Rattle.laws.proofs.SideBySide.{size}
use Rattle.laws.proofs.Sound.{length-templates}
use Rattle.limits.specs.Limits.{max_definitions}
use Rattle.rules.specs.State.{State, card_level, level_of, params_of, templates_of}
use Rattle.texts.proofs.Levels.{AllSay, AllsSay, TokenSays, head_meaning, level-shown}
use Rattle.texts.specs.Noted.{is_name}
use Rattle.texts.specs.Text.{Declarations, Scene, levels, named, no_declaration, ref_head, shown, token_head}
use Rattle.theory.proofs.Form.{at}
use Rattle.theory.specs.Level.{IsLevel, binds_in}
use Rattle.theory.specs.Expand.{arities_of}
use Rattle.theory.specs.Lists.{All}
use Rattle.theory.specs.Term.{Arities, Every, Everys, Fits, Term, WellFormed, binder, by_cards, declared, declared_level, defined, eval, kind_arity}
use Rattle.theory.specs.Tree.{◌▹◌, count, map_trees, node, ⟨⟩}
use Rattle.tokens.proofs.Places.{fits}
use Rattle.tokens.proofs.Reading.{good}
use Rattle.tokens.specs.Expr.{Expr, Exprs, Placed}
use Rattle.tokens.specs.Fold.{fold}
use Rattle.tokens.specs.declared.Token.{Token}
use Rattle.tokens.specs.declared.Token.TheVariants.{Parameter, Bound, Name, InstanceOperator, BuiltIn, Literal}

-- The scene shows a state: a definition's form gives what its card says, a declaration's what the declared name has.
pub record Shows (S : Scene) (decls : Declarations) (s : State) : Type 0 where
  pub definitions : (g : ℕ) (us : List ℕ) → g < length s.definitions → length us ≡ params_of s g → All IsLevel us → S.definitions g us ≡ card_level s g us
  pub declarations : (d : ℕ) (us : List ℕ) → d < length decls → length us ≡ kind_arity (get_or decls d no_declaration).0 → All IsLevel us
      → S.declarations d us ≡ declared_level (get_or decls d no_declaration).0 (get_or decls d no_declaration).1 us

-- what the table says of every name of a text is below m
abbrev mutual
  pub RefsBelow : ℕ → List ℕ → Expr → Type 0
  RefsBelow m refs (node h ts) = (is_name h.token ≡ true → get_or refs h.at 0 < m) × AllRefsBelow m refs ts

  pub AllRefsBelow : ℕ → List ℕ → Exprs → Type 0
  AllRefsBelow m refs ⟨⟩ = Unit {0}
  AllRefsBelow m refs (t ▹ ts) = RefsBelow m refs t × AllRefsBelow m refs ts

module _ (refs : List ℕ) (decls : Declarations) (S : Scene) (s : State) (good : Good s) (shows : Shows S decls s) (n : ℕ) (v : List ℕ) (size : length v ≡ 0 + n)
    (levels-v : All IsLevel v) where
  abbrev ar : Arities
  ar = arities_of (templates_of s)

  -- a name's scene says what the cards and the declared names have
  name-says : (r m : ℕ) → r < max_definitions + length decls → Fits ar n 0 (ref_head decls r) m → (us : List ℕ) → length us ≡ m → All IsLevel us
      → named S r us ≡ head_meaning declared_level (card_level s) (ref_head decls r) us
  name-says r m below fits us e a = go (ltb r max_definitions) refl fits
    where
      d : ℕ
      d = r - max_definitions

      go : (b : Bool) → ltb r max_definitions ≡ b
          → Fits ar n 0 (cond b (defined r) (declared (get_or decls (r - max_definitions) no_declaration).0 (get_or decls (r - max_definitions) no_declaration).1)) m
          → cond b (S.definitions r us) (S.declarations (r - max_definitions) us)
          ≡ head_meaning declared_level (card_level s) (cond b (defined r) (declared (get_or decls (r - max_definitions) no_declaration).0 (get_or decls (r - max_definitions) no_declaration).1)) us
      go true p f =
          let l : r < length s.definitions = omega (arith, known-below (templates_of s) r m f, length-templates [] s.definitions) in
          shows.definitions r us l (e ∙ some-injective (sym f ∙ arity-known s good.sound r l)) a
      go false p f = shows.declarations (r - max_definitions) us (omega (arith, ltb-false r max_definitions p)) (e ∙ f) a

  -- a name fits at any depth
  any-depth : (r m k : ℕ) → Fits ar n k (ref_head decls r) m → Fits ar n 0 (ref_head decls r) m
  any-depth r m k f = go (ltb r max_definitions) f
    where
      go : (c : Bool) → Fits ar n k (cond c (defined r) (declared (get_or decls (r - max_definitions) no_declaration).0 (get_or decls (r - max_definitions) no_declaration).1)) m
          → Fits ar n 0 (cond c (defined r) (declared (get_or decls (r - max_definitions) no_declaration).0 (get_or decls (r - max_definitions) no_declaration).1)) m
      go true f = f
      go false f = f

  count_map : (ts : Exprs) → count (map_trees (λ (h : Placed). token_head refs decls h.at h.token) ts) ≡ count ts
  count_map ⟨⟩ = refl
  count_map (t ▹ ts) = ap suc (count_map ts)

  token-says : (k : Token) (at m depth : ℕ) → (is_name k ≡ true → get_or refs at 0 < max_definitions + length decls)
      → Fits ar n depth (token_head refs decls at k) m → TokenSays refs decls S 0 n v size levels-v declared_level (card_level s) (cards-keep s good) ar at k m
  token-says (Parameter i) at m depth b f = tt
  token-says (Bound j) at m depth b f = tt
  token-says (Name x k) at m depth b f = λ us e a. name-says (get_or refs at 0) m (b refl) (any-depth (get_or refs at 0) m depth f) us e a
  token-says (InstanceOperator i x k) at m depth b f = λ us e a. name-says (get_or refs at 0) m (b refl) (any-depth (get_or refs at 0) m depth f) us e a
  token-says (BuiltIn c) at m depth b f = tt
  token-says (Literal x) at m depth b f = tt

  mutual
    all_say : (t : Expr) (k : ℕ) → RefsBelow (max_definitions + length decls) refs t → Every (Fits ar n) k (shown refs decls t)
        → AllSay refs decls S 0 n v size levels-v declared_level (card_level s) (cards-keep s good) ar t
    all_say (node h ts) k b f = (
      token-says h.token h.at (count ts) k b.0 (subst (Fits ar n k (token_head refs decls h.at h.token)) (count_map ts) f.0),
      alls-say ts k (binds_in (binder (token_head refs decls h.at h.token))) b.1 f.1,
    )

    alls-say : (ts : Exprs) (k : ℕ) (c : ℕ → ℕ) → AllRefsBelow (max_definitions + length decls) refs ts
        → Everys (Fits ar n) k c (map_trees (λ (h : Placed). token_head refs decls h.at h.token) ts)
        → AllsSay refs decls S 0 n v size levels-v declared_level (card_level s) (cards-keep s good) ar ts
    alls-say ⟨⟩ k c b f = tt
    alls-say (u ▹ ts) k c b f = (all_say u (c 0 + k) b.0 f.0, alls-say ts k (λ i. c (suc i)) b.1 f.1)

  -- The text's level by the tables is its term's level by the cards.
  pub own-level : (t : Expr) (u : Term) → RefsBelow (max_definitions + length decls) refs t → shown refs decls t ≡ u → WellFormed ar n 0 u
      → fold (levels refs S 0 v) 0 t ≡ level_of s v u
  own-level t u below e formed =
      let w = subst (Every (Fits ar n) 0) (sym e) formed in
      level-shown refs decls S 0 n v size levels-v declared_level (card_level s) (cards-keep s good) ar t 0 [] tt (λ j l. absurd (omega arith)) (all_say t 0 below w) w
      ∙ ap (eval (by_cards (card_level s)) v []) e
