-- Where the tables show a world, a text read by them has the level that its term has in the world.
use mathlib.Core.Path.{◌≡◌, refl, sym, ap, ap₂, ◌∙◌}
use mathlib.Core.Bool.{Bool, true, false, cond}
use mathlib.Core.List.{List, [], ◌∷◌, ◌++◌}
use Prim.Native.Nat.{ℕ, zero, suc, ◌+◌, ◌-◌, ◌≤◌, ◌<◌}
use native.Mathlib.Nat.{add-suc}
use native.Mathlib.Omega.{arith}
use lib.Dec.{ltb}
use lib.ListN.{drop, get_or, length, take}
use lib.Seq.{get_or-drop, length-take-le}
use Rattle.limits.specs.Limits.{max_definitions, max_nesting}
use Rattle.theory.specs.Level.{IsLevel, binds_in, incorrect, plain}
use Rattle.theory.specs.Lists.{All, param_levels}
use Rattle.theory.specs.Tree.{◌▹◌, count, map_trees, node, ⟨⟩}
use Rattle.theory.specs.Term.{Arities, Every, Everys, Fits, Head, Kind, Term, Terms, binder, declared, defined, eval, evals, kind_arity, long_way}
use Rattle.theory.specs.Expand.{itself, params_from}
use Rattle.theory.proofs.ExpandFirst.{Keeps}
use Rattle.theory.proofs.Lists.{append-all}
use Rattle.tokens.specs.Expr.{Expr, Exprs, Placed, expr_at, found}
use Rattle.tokens.specs.declared.Token.{Token}
use Rattle.tokens.specs.declared.Token.TheVariants.{Parameter, Bound, Name, InstanceOperator, BuiltIn, Literal}
use Rattle.texts.specs.Text.{Declarations, named, no_declaration, ref_head, shown, token_head}
use Rattle.texts.proofs.Levels.{AllSay, AllsSay, TokenSays, head_meaning, level-shown, own-level, params-take}
use Rattle.forms.specs.Forms.{Gives, level_at, width}
use Rattle.levels.specs.Tables.{names_of, scene_of}
use Rattle.forms.proofs.Highest.{low-params}
use Rattle.forms.proofs.Leading.{params-length}
use Rattle.levels.specs.Walk.{TextForm}
use Rattle.worlds.specs.World.{World, eval_at, params_in, read_defined}
use Rattle.worlds.specs.Tables.{Table, by_tables, declared_by}
use Rattle.entering.specs.Implied.{implied_level}
use Rattle.entering.specs.Shows.{OneOf, Resolved, Shows, TextNames, TextsName, TokenNames}

pub take-levels : (n : ℕ) (v : List ℕ) → All IsLevel v → All IsLevel (take n v)
take-levels zero v a = tt
take-levels (suc n) [] a = tt
take-levels (suc n) (x ∷ v) a = (a.0, take-levels n v a.1)

module _ (G : ℕ → List ℕ → ℕ) (decls : Declarations) (N F : ℕ → Type 0) (w : World) (Ss : List (Table ℕ)) (numbers words : List ℕ)
    (shows : Shows G decls N F w Ss numbers words) (v : List ℕ) (lows : All IsLevel v) (n : ℕ) (size : length v ≡ params_in w + n) where
  abbrev pre : List ℕ
  pre = take (params_in w) v

  abbrev D : Kind → ℕ → List ℕ → ℕ
  D = declared_by long_way Ss pre

  abbrev H : ℕ → List ℕ → ℕ
  H = read_defined G w pre

  pre-length : length pre ≡ params_in w
  pre-length = length-take-le (params_in w) v (omega arith)

  -- the scene says of a name what the world says
  says : (ar : Arities) (r m k : ℕ) → Resolved N F r → Fits ar n k (ref_head decls r) m → (us : List ℕ) → length us ≡ m → All IsLevel us
      → named (scene_of numbers words) r (pre ++ us) ≡ head_meaning D H (ref_head decls r) us
  says ar r m k = go (ltb r max_definitions)
    where
      go : (b : Bool) → OneOf b N F r
          → Fits ar n k (cond b (defined r) (declared (get_or decls (r - max_definitions) no_declaration).0 (get_or decls (r - max_definitions) no_declaration).1)) m
          → (us : List ℕ) → length us ≡ m → All IsLevel us
          → cond b ((scene_of numbers words).definitions r (pre ++ us)) ((scene_of numbers words).declarations (r - max_definitions) (pre ++ us))
          ≡ head_meaning D H (cond b (defined r) (declared (get_or decls (r - max_definitions) no_declaration).0 (get_or decls (r - max_definitions) no_declaration).1)) us
      go true h f us l a = shows.defined r h (pre ++ us) (append-all IsLevel pre us (take-levels (params_in w) v lows) a)
      go false h f us l a = shows.declared (r - max_definitions) h pre us pre-length (l ∙ f) (take-levels (params_in w) v lows) a

  module _ (refs : List ℕ) (keeps : Keeps (by_tables long_way G w Ss pre) IsLevel) (ar : Arities) where
    abbrev head_of : Placed → Head
    head_of h = token_head refs decls h.at h.token

    count_map : (ts : Exprs) → count (map_trees head_of ts) ≡ count ts
    count_map ⟨⟩ = refl
    count_map (t ▹ ts) = ap suc (count_map ts)

    token-says : (t : Token) (at k : ℕ) (ts : Exprs) → TokenNames N F refs at t → Fits ar n k (token_head refs decls at t) (count (map_trees head_of ts))
        → TokenSays refs decls (scene_of numbers words) (params_in w) n v size lows D H keeps ar at t (count ts)
    token-says (Parameter i) at k ts h f = tt
    token-says (Bound j) at k ts h f = tt
    token-says (Name x m) at k ts h f = λ us l a. says ar (get_or refs at 0) (count (map_trees head_of ts)) k h f us (l ∙ sym (count_map ts)) a
    token-says (InstanceOperator i x m) at k ts h f = λ us l a. says ar (get_or refs at 0) (count (map_trees head_of ts)) k h f us (l ∙ sym (count_map ts)) a
    token-says (BuiltIn c) at k ts h f = tt
    token-says (Literal x) at k ts h f = tt

    mutual
      all_say : (t : Expr) (k : ℕ) → TextNames N F refs t → Every (Fits ar n) k (shown refs decls t)
          → AllSay refs decls (scene_of numbers words) (params_in w) n v size lows D H keeps ar t
      all_say (node h ts) k m f =
          (token-says h.token h.at k ts m.0 f.0, alls-say ts k (binds_in (binder (head_of h))) m.1 f.1)

      alls-say : (ts : Exprs) (k : ℕ) (s : ℕ → ℕ) → TextsName N F refs ts → Everys (Fits ar n) k s (map_trees head_of ts)
          → AllsSay refs decls (scene_of numbers words) (params_in w) n v size lows D H keeps ar ts
      alls-say ⟨⟩ k s m f = tt
      alls-say (t ▹ ts) k s m f = (all_say t (s 0 + k) m.0 f.0, alls-say ts k (λ i. s (suc i)) m.1 f.1)

    -- A substitute that is written: its form gives the level of its term in the world of the instance's own field.
    pub written-level : (s : List ℕ) (at e : ℕ) (t : Expr) (f : ℕ) (u : Term) → length v ≤ width → TextForm (names_of refs numbers words (params_in w)) s at f
        → expr_at max_nesting s at ≡ found t e → TextNames N F refs t → Every (Fits ar n) 0 (shown refs decls t)
        → shown refs decls t ≡ u → level_at f v ≡ eval_at (by_tables long_way G w Ss) (params_in w) u v
    written-level s at e t f u short form q m ok z =
        form.level t e q v short lows
        ∙ level-shown refs decls (scene_of numbers words) (params_in w) n v size lows D H keeps ar t 0 [] tt (λ (j : ℕ) (l : j < 0). absurd (omega arith)) (all_say t 0 m ok) ok
        ∙ ap (λ (x : Term). eval_at (by_tables long_way G w Ss) (params_in w) x v) z

  -- parameters in a row mean their levels
  values-row : (i m : ℕ) → i + m ≤ n → (x : ℕ) (s : ℕ → ℕ) (β : List ℕ) → evals (by_tables long_way G w Ss pre) (drop (params_in w) v) β x s (params_from i m) ≡ param_levels (params_in w + i) m v
  values-row i zero h x s β = refl
  values-row i (suc m) h x s β =
      ap₂ ◌∷◌ (get_or-drop (params_in w) v i incorrect ∙ sym (own-level v (params_in w + i) (omega arith)))
      (values-row (suc i) m (omega arith) x (λ j. s (suc j)) β ∙ ap (λ (j : ℕ). param_levels j m v) (add-suc (params_in w) i))

  -- A substitute that is implied.
  pub implied-level : (ar : Arities) (r p : ℕ) (k : Kind) (f : ℕ) → length v ≤ width → Gives f (implied_level numbers words r (params_in w) p (kind_arity k)) → n ≡ p + kind_arity k
      → Resolved N F r → Fits ar n 0 (ref_head decls r) (kind_arity k)
      → level_at f v ≡ eval_at (by_tables long_way G w Ss) (params_in w) (itself p k (ref_head decls r)) v
  unfolding implied_level
  implied-level ar r p k f short g e h ok =
      let us : List ℕ = param_levels (params_in w + p) (kind_arity k) v in
      g.at v short lows ∙ ap (λ (l : List ℕ). named (scene_of numbers words) r (l ++ us)) (params-take (params_in w) v (omega arith))
      ∙ says ar r (kind_arity k) 0 h ok us (params-length (params_in w + p) (kind_arity k) v) (low-params (params_in w + p) (kind_arity k) v lows)
      ∙ ap (head_meaning D H (ref_head decls r)) (sym (values-row p (kind_arity k) (omega arith) incorrect (binds_in plain) []))
      ∙ by-ref (ltb r max_definitions) (params_from p (kind_arity k))
    where
      by-ref : (b : Bool) (ts : Terms)
          → head_meaning D H (cond b (defined r) (declared (get_or decls (r - max_definitions) no_declaration).0 (get_or decls (r - max_definitions) no_declaration).1)) (evals (by_tables long_way G w Ss pre) (drop (params_in w) v) [] incorrect (binds_in plain) ts)
          ≡ eval (by_tables long_way G w Ss pre) (drop (params_in w) v) [] (node (cond b (defined r) (declared (get_or decls (r - max_definitions) no_declaration).0 (get_or decls (r - max_definitions) no_declaration).1)) ts)
      by-ref true ts = refl
      by-ref false ts = refl
