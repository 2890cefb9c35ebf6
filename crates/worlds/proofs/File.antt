-- For every file: the world of each definition, what it means there, and the number that each name has.
use borrow.Author.Tests.{ltb-true}
use mathlib.Core.List.{List, [], ◌∷◌}
use mathlib.Core.Option.{Option, some}
use mathlib.Core.Path.{◌∙◌, ◌≡◌, ap, refl, subst, sym}
use lib.Dec.{ltb}
use lib.ListN.{get_or-map, get_or, length}
use native.Mathlib.Omega.{arith}
use Prim.Native.Nat.{◌+◌, ◌<◌, ◌≤◌, ℕ}
use Rattle.laws.proofs.Accept.{accepted-fields}
use Rattle.laws.proofs.Formats.{some-injective}
use Rattle.laws.proofs.Invariant.{arity-known, good-file}
use Rattle.laws.proofs.Sound.{SoundFrom, all-formed}
use Rattle.laws.proofs.Within.{within-file}
use Rattle.rules.specs.Field.{Field}
use Rattle.rules.specs.Run.{judge_file, result}
use Rattle.rules.specs.State.{Added, State, card_level, meanings, no_definition, params_of, start, templates_of}
use Rattle.theory.proofs.Demand3.{card-exact}
use Rattle.theory.proofs.ExpandFirst.{Keeps}
use Rattle.theory.proofs.Levels.{levels-kept}
use Rattle.theory.specs.Level.{IsLevel}
use Rattle.theory.proofs.Summary.{AllFormed, summarise-all, summary-good}
use Rattle.theory.specs.Expand.{Definition, arities_of, body_in, brought, own, summaries_from}
use Rattle.theory.specs.Lists.{All}
use Rattle.theory.specs.Term.{Reading, eval, long_way}
use Rattle.worlds.proofs.Declared.{AllCovered, texts-declared}
use Rattle.worlds.proofs.Depth.{Depths, chain-short, depths, depths-start}
use Rattle.worlds.proofs.Fields.{worlds-adds, worlds-start}
use Rattle.worlds.proofs.InWorld.{Comes, IsText, all-below, arities_below, in-world, in-world-tables, params-in-world, text-below}
use Rattle.worlds.proofs.Invariant.{IsOwn, RowOk, Worlds, length-meanings}
use Rattle.worlds.proofs.Reading.{Means}
use Rattle.worlds.proofs.Starts.{name-number, relative}
use Rattle.worlds.proofs.Steps.{Steps, steps, steps-start}
use Rattle.worlds.proofs.Uses.{definition_in, restricted-some}
use Rattle.worlds.specs.Rows.{Row, body_of, no_row, original, own_params, rows_of, source_of, text_of, world_of}
use Rattle.worlds.specs.Tables.{Right, Table, by_tables}
use Rattle.worlds.specs.World.{AllDeclared, AnyName, In, Link, Relative, SubstitutesBelow, Uses, World, eval_at, meaning_in, number_in, params_in, place, start_in}

is-own : (d : Definition) → IsOwn d → d ≡ own (own_params d) (body_of d)
is-own (own n t) h = refl
is-own (brought p σ g) h = absurd h

-- G says what each definition below D means.
pub record MeansBelow {A : Type 0} (M : Reading A) (Good : A → Type 0) (s : State) (D : ℕ) (G : ℕ → List A → A) : Type 0 where
  pub keeps : Keeps M Good
  pub good : (g : ℕ) (vs : List A) → All Good vs → Good (G g vs)
  pub exact : (g : ℕ) (vs : List A) → g < D → length vs ≡ params_of s g → All Good vs → G g vs ≡ eval M vs [] (body_in (templates_of s) g)

module _ (s : State) (rs : List Row) (w : Worlds s rs) (sound : SoundFrom [] s.definitions) (D : ℕ) (l : D < length s.definitions) where
  lawful : AllFormed [] (meanings s)
  lawful = all-formed [] s.definitions sound

  there : D < length (meanings s)
  there = rw (length-meanings s) l

  row : RowOk (meanings s) w.runs (get_or rs D no_row) D
  row = w.book.rows D there

  own-text : definition_in (meanings s) (source_of rs D) ≡ own (own_params (original s rs D)) (text_of s rs D)
  own-text =
      let e = get_or-map (λ (d : Added). d.meaning) s.definitions (source_of rs D) no_definition in
      e ∙ is-own (original s rs D) (subst IsOwn e row.2)

  pub is-text : IsText (meanings s) w.runs (world_of rs D) D (own_params (original s rs D)) (text_of s rs D)
  is-text = record { source = source_of rs D; comes = row.0; known = row.1; there = there; text = own-text }

  -- its parameters are those of the instances, outermost first, and then the text's own
  pub world-params : params_of s D ≡ params_in (world_of rs D) + own_params (original s rs D)
  world-params =
      some-injective
      (sym (arity-known s sound D l)
      ∙ params-in-world (meanings s) lawful w.runs w.book.disjoint is-text)

  means-there : {A : Type 0} (M : Reading A) (Good : A → Type 0) (G : ℕ → List A → A) → MeansBelow M Good s D G
      → Means M Good (arities_below (arities_of (templates_of s)) D) (body_in (templates_of s)) G
  means-there M Good G m =
      record {
        keeps = m.keeps;
        good = m.good;
        exact =
            λ g vs e a.
            let o = restricted-some (λ h. ltb h D) (arities_of (templates_of s)) g (length vs) e in
            let k = ltb-true g D o.0 in
            m.exact g vs k (some-injective (sym o.1 ∙ arity-known s sound g (omega arith))) a;
      }

  -- The template of D means what its original text means in its world: what the definitions below D mean is enough.
  pub definition-in-world : {A : Type 0} (M : Reading A) (Good : A → Type 0) (G : ℕ → List A → A) → MeansBelow M Good s D G → (us : List A) → length us ≡ params_of s D → All Good us
      → eval M us [] (body_in (templates_of s) D) ≡ meaning_in M G (world_of rs D) (text_of s rs D) us
  definition-in-world M Good G m us q a =
      in-world (meanings s) lawful w.runs w.book.disjoint is-text
      M Good G (means-there M Good G m) us (q ∙ world-params) a

  -- and so by tables of the substitutes' meanings, one for each instance of the chain, each worked out by those of the instances outside it,
  -- for the names that the module instanced declares; file-declared says that no other is named
  pub definition-by-tables : {A : Type 0} (M : Reading A) (Good : A → Type 0) (G : ℕ → List A → A) → MeansBelow M Good s D G
      → (Ss : List (Table A)) → Right M Good G (world_of rs D) Ss → AllDeclared AnyName (world_of rs D) (text_of s rs D) → (us : List A) → length us ≡ params_of s D → All Good us
      → eval M us [] (body_in (templates_of s) D) ≡ eval_at (by_tables M G (world_of rs D) Ss) (params_in (world_of rs D)) (text_of s rs D) us
  definition-by-tables M Good G m Ss r d us q a =
      in-world-tables (meanings s) lawful w.runs w.book.disjoint is-text
      M Good G (means-there M Good G m) Ss r d us (q ∙ world-params) a

  -- Every definition number used, in the text and in the substitutes along the chain, is below D.
  pub text-uses-below : Uses (λ h. number_in (world_of rs D) h < D) (text_of s rs D)
  text-uses-below =
      text-below (meanings s) lawful w.runs w.book.disjoint is-text

  pub substitutes-use-below : SubstitutesBelow D (world_of rs D)
  substitutes-use-below =
      all-below (meanings s) lawful w.runs w.book.disjoint is-text

  -- The number of a name: the world's start and its place in the module instanced.
  pub world-number : (k : Link) (v : World) → world_of rs D ≡ k ∷ v → (h : ℕ) → In h k.names → number_in (k ∷ v) h ≡ start_in (k ∷ v) + place h k.names
  world-number k v e h i =
      name-number (meanings s) w.runs w.book.disjoint k v (source_of rs D) D (subst (λ (x : World). Comes (meanings s) w.runs x (source_of rs D) D) e row.0) h i

  -- and the same relative to D: at each world along the chain a name's number is D's, less the place of D's source there, and the name's
  -- place
  pub world-relative : Relative (world_of rs D) (source_of rs D) D
  world-relative = relative (meanings s) w.runs w.book.disjoint (world_of rs D) (source_of rs D) D row.0

  -- The card of D, from the cards below it.
  pub card-in-world : (G : ℕ → List ℕ → ℕ) → ((g : ℕ) (vs : List ℕ) → All IsLevel vs → IsLevel (G g vs))
      → ((g : ℕ) (vs : List ℕ) → g < D → length vs ≡ params_of s g → All IsLevel vs → G g vs ≡ card_level s g vs)
      → (ρ : List ℕ) → length ρ ≡ params_of s D → All IsLevel ρ → card_level s D ρ ≡ meaning_in long_way G (world_of rs D) (text_of s rs D) ρ
  card-in-world G k e ρ q a =
      card-exact (meanings s) lawful D ρ (arity-known s sound D l ∙ ap {B = Option ℕ} some (sym q)) a
      ∙ definition-in-world long_way IsLevel G
      (record {
        keeps = levels-kept;
        good = k;
        exact =
            λ g vs b p c. e g vs b p c
            ∙ card-exact (meanings s) lawful g vs (arity-known s sound g (omega arith) ∙ ap {B = Option ℕ} some (sym p)) c;
      })
      ρ q a

-- a card gives levels
card-good : (s : State) → SoundFrom [] s.definitions → (g : ℕ) (ρ : List ℕ) → All IsLevel ρ → IsLevel (card_level s g ρ)
card-good s sound g ρ a =
    summary-good long_way IsLevel levels-kept (templates_of s) (summaries_from long_way [] [] (meanings s))
    (summarise-all long_way IsLevel levels-kept [] [] (meanings s) tt (all-formed [] s.definitions sound)) g ρ a

-- The rows of an accepted file
abbrev pub file_fields : (file : List ℕ) (s : State) → judge_file file ≡ result s → List Field
file_fields file s e = (accepted-fields file s e).fields

abbrev pub file_rows : (file : List ℕ) (s : State) → judge_file file ≡ result s → List Row
file_rows file s e = rows_of start [] (file_fields file s e)

pub file-worlds : (file : List ℕ) (s : State) (e : judge_file file ≡ result s) → Worlds s (file_rows file s e)
file-worlds file s e =
    subst (λ (x : State). Worlds x (file_rows file s e)) (accepted-fields file s e).reached (worlds-adds (file_fields file s e) start [] worlds-start)

pub file-sound : (file : List ℕ) (s : State) → judge_file file ≡ result s → SoundFrom [] s.definitions
file-sound file s e = (good-file file s e).sound

-- a text brought through instances, and every substitute along its chain but the outermost, names only what the module instanced declares (of the
-- outermost, and of an own text, `Declared.texts-declared` says it by the module's context)
pub file-declared : (file : List ℕ) (s : State) (e : judge_file file ≡ result s) (D : ℕ) → D < length s.definitions
    → AllDeclared AnyName (world_of (file_rows file s e) D) (text_of s (file_rows file s e) D)
file-declared file s e D l =
    let a = accepted-fields file s e in
    let w = file-worlds file s e in
    (subst (λ (x : State). AllCovered x (file_rows file s e)) a.reached (texts-declared a.fields a.clear)).all D (omega (arith, w.book.counted, length-meanings s))

-- each definition is an own one, or brought from one below it by one instance
pub file-steps : (file : List ℕ) (s : State) (e : judge_file file ≡ result s) → Steps (file_rows file s e)
file-steps file s e = steps (file_fields file s e) start [] worlds-start steps-start

-- a chain has at most fifteen links
pub file-short : (file : List ℕ) (s : State) (e : judge_file file ≡ result s) (D : ℕ) → D < length s.definitions → length (world_of (file_rows file s e) D) ≤ 15
file-short file s e D l =
    let w = file-worlds file s e in
    chain-short s (file_rows file s e) (within-file file s e)
    (subst (λ (x : State). Depths x (file_rows file s e)) (accepted-fields file s e).reached (depths (file_fields file s e) start [] worlds-start depths-start))
    D (omega (arith, w.book.counted, length-meanings s))

-- In an accepted file every card is the level of the definition's original text in its world.
pub every-card-in-world : (file : List ℕ) (s : State) (e : judge_file file ≡ result s) (D : ℕ) → D < length s.definitions → (ρ : List ℕ) → length ρ ≡ params_of s D → All IsLevel ρ
    → card_level s D ρ ≡ meaning_in long_way (card_level s) (world_of (file_rows file s e) D) (text_of s (file_rows file s e) D) ρ
every-card-in-world file s e D l ρ q a =
    card-in-world s (file_rows file s e) (file-worlds file s e) (file-sound file s e) D l (card_level s) (card-good s (file-sound file s e)) (λ g vs b p c. refl) ρ q a
