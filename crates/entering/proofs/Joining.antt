-- From the contracts of `substitutes`, `replacing` and `numbering` to what holds one instance further in.
use mathlib.Core.Path.{◌≡◌, refl, sym, ap, subst, ◌∙◌}
use mathlib.Core.Bool.{true}
use mathlib.Core.List.{List, [], ◌∷◌, ◌++◌}
use mathlib.Core.Option.{Option, some}
use Prim.Native.Nat.{ℕ, ◌+◌, ◌≤◌, ◌<◌}
use native.Mathlib.Omega.{arith}
use borrow.Author.Tests.{eq-eqb, le-leb}
use lib.ListN.{drop, get_or, length, length-append, take}
use Rattle.limits.specs.Limits.{max_arity, max_declarations, max_definitions, max_nesting}
use Rattle.theory.specs.Lists.{All, bind_option}
use Rattle.theory.specs.Term.{Arities, Every, Fits, Kind, Term, constant, kind_arity, long_way, variable}
use Rattle.theory.specs.Expand.{itself}
use Rattle.theory.proofs.ExpandFirst.{Keeps, eval-good}
use Rattle.theory.proofs.Levels.{levels-kept}
use Rattle.theory.specs.Level.{IsLevel}
use Rattle.theory.proofs.Lists.{append-all}
use Rattle.tokens.specs.Expr.{Expr, expr_at, found}
use Rattle.tokens.specs.Limit.{counts_kept}
use Rattle.texts.specs.Text.{Declarations, no_declaration, ref_head, shown}
use Rattle.forms.specs.Forms.{form_at, Gives, level_at, width}
use Rattle.levels.specs.Tables.{names_of}
use Rattle.levels.specs.Walk.{TextForm}
use Rattle.store.specs.Store.{kind_at}
use Rattle.store.specs.declared.Facts.{Facts}
use Rattle.context.specs.Lookup.{declared_named}
use Rattle.worlds.specs.World.{DeclaredBy, In, Link, World, brings, eval_at, number_in, params_in}
use Rattle.worlds.specs.Tables.{Right, Table, by_tables, declared_by}
use Rattle.worlds.proofs.Reading.{all_drop}
use Rattle.entering.specs.declared.substitutes.Site.{Site}
use Rattle.std.specs.Prelude.{Option as Answer, Some, None}
use Rattle.entering.specs.Numbering.{Entered, ShowsNumbers}
use Rattle.entering.specs.Replaced.{Replaced}
use Rattle.entering.specs.Written.{written_at}
use Rattle.entering.specs.Implied.{arguments_of, implied_level, implied_ref}
use Rattle.entering.specs.Substitutes.{Around, Stands, StandsBy, Substituted, of_kind, same_declared}
use Rattle.entering.specs.Shows.{Resolved, Shows, TextNames}
use Rattle.entering.proofs.Entering.{numbers-shown}
use Rattle.entering.proofs.Outset.{kind_number}
use Rattle.entering.proofs.Saying.{implied-level, take-levels, written-level}

-- tables of levels
abbrev pub LowTable : Table ℕ → Type 0
LowTable S = (k : Kind) (x : ℕ) (us : List ℕ) → All IsLevel us → IsLevel (S k x us)

-- The reading by tables keeps levels.
pub keeps-tables : (G : ℕ → List ℕ → ℕ) → ((g : ℕ) (us : List ℕ) → All IsLevel us → IsLevel (G g us)) → (w : World) (Ss : List (Table ℕ)) → All LowTable Ss
    → (pre : List ℕ) → All IsLevel pre → Keeps (by_tables long_way G w Ss pre) IsLevel
keeps-tables G good w Ss low pre a =
    record {
      on_declared = λ k x vs b. here Ss low k x vs b;
      on_defined = λ g vs b. good (number_in w g) (pre ++ vs) (append-all IsLevel pre vs a b);
      on_builtin = levels-kept.on_builtin;
      on_leaf = levels-kept.on_leaf;
      looks = record { unknown = levels-kept.looks.unknown; on_builtin = levels-kept.looks.on_builtin };
    }
  where
    here : (Ss : List (Table ℕ)) → All LowTable Ss → (k : Kind) (x : ℕ) (vs : List ℕ) → All IsLevel vs → IsLevel (declared_by long_way Ss pre k x vs)
    here [] l k x vs b = levels-kept.on_declared k x vs b
    here (S ∷ Ss) l k x vs b = l.0 k x (pre ++ vs) (append-all IsLevel pre vs a b)

-- what the reader of the file knows of a substitute: the text that stands where it is written,
pub record WrittenText (a : Around) (decls : Declarations) (N F : ℕ → Type 0) (ar : Arities) (n at : ℕ) (u : Term) : Type 0 where
  pub text : Expr
  pub next : ℕ
  pub stands : expr_at max_nesting a.file at ≡ found text next
  pub kept : counts_kept text ≡ true
  pub names : TextNames N F a.refs text
  pub formed : Every (Fits ar n) 0 (shown a.refs decls text)
  pub same : shown a.refs decls text ≡ u

-- or the operator that is implied, r being its number
pub record ImpliedText (decls : Declarations) (N F : ℕ → Type 0) (ar : Arities) (n p : ℕ) (k : Kind) (r : ℕ) (u : Term) : Type 0 where
  pub resolved : Resolved N F r
  pub fits : Fits ar n 0 (ref_head decls r) (kind_arity k)
  pub same : itself p k (ref_head decls r) ≡ u

abbrev pub Known : Around → Site → Declarations → (ℕ → Type 0) → (ℕ → Type 0) → Arities → ℕ → Kind → ℕ → Term → Answer ℕ → Type 0
Known a site decls N F ar n k o u (Some at) = WrittenText a decls N F ar n at u
Known a site decls N F ar n k o u None =
    ImpliedText decls N F ar n site.params k (implied_ref a.names a.facts a.contexts a.heads site.owner (get_or a.names o 0)) u

-- the code of the declared name in the module instanced, and what is known of its substitute
pub record CodeOf (a : Around) (site : Site) (decls : Declarations) (N F : ℕ → Type 0) (ar : Arities) (codes : List ℕ) (k : Kind) (x : ℕ) (u : Term) : Type 0 where
  pub code : ℕ
  pub found : declared_named a.names a.facts x codes ≡ some code
  pub kind : kind_at a.facts code ≡ kind_number k
  pub named : get_or a.names code 0 ≡ x
  pub few : kind_arity k ≤ max_arity
  pub known : Known a site decls N F ar (site.params + kind_arity k) k code u (written_at site.count a.file site.start x)

-- the declarations of the file that the module instanced declares, by number
abbrev pub OwnTo : Declarations → Link → ℕ → Type 0
OwnTo decls l d = (d < length decls) × DeclaredBy l (get_or decls d no_declaration).0 (get_or decls d no_declaration).1

-- the definitions of the module instanced
abbrev pub NamedIn : Link → ℕ → Type 0
NamedIn l h = (h < max_definitions) × In h l.names

-- what holds one instance further in
pub record Further (G : ℕ → List ℕ → ℕ) (decls : Declarations) (l : Link) (w : World) (Ss : List (Table ℕ)) (numbers' words' : List ℕ) : Type 0 where
  pub table : Table ℕ
  pub low : LowTable table
  pub right : Right long_way IsLevel G (l ∷ w) (table ∷ Ss)
  pub numbered : ShowsNumbers (NamedIn l) numbers' (l ∷ w)
  pub shows : Shows G decls (OwnTo decls l) (NamedIn l) (l ∷ w) (table ∷ Ss) numbers' words'

-- the code of declaration d has its name and its kind
pub record CodeShows (a : Around) (declared : List ℕ) (decls : Declarations) (d : ℕ) : Type 0 where
  pub named : get_or a.names (get_or declared d 0) 0 ≡ (get_or decls d no_declaration).1
  pub kind : kind_at a.facts (get_or declared d 0) ≡ kind_number (get_or decls d no_declaration).0

count-kind : (k : Kind) → kind_arity k ≤ max_arity → arguments_of (kind_number k) ≡ kind_arity k
unfolding arguments_of
count-kind (constant n) h = rw (le-leb n max_arity h) refl
count-kind variable h = refl

-- a code that has the name and the kind is found by them
same-there : (names : List ℕ) (facts : List Facts) (codes : List ℕ) (e x n o : ℕ) → get_or names e 0 ≡ x → kind_at facts e ≡ n → declared_named names facts x codes ≡ some o → kind_at facts o ≡ n
    → same_declared names facts codes e ≡ some o
unfolding same_declared of_kind
same-there names facts codes e x n o en ek f eo =
    let z : kind_at facts o ≡ kind_at facts e = eo ∙ sym ek in
    ap (λ (y : ℕ). bind_option (declared_named names facts y codes) (of_kind facts e)) en ∙ ap (λ (y : Option ℕ). bind_option y (of_kind facts e)) f
    ∙ rw (eq-eqb (kind_at facts o) (kind_at facts e) z) refl

module _ (G : ℕ → List ℕ → ℕ) (good : (g : ℕ) (us : List ℕ) → All IsLevel us → IsLevel (G g us)) (decls : Declarations) (N F : ℕ → Type 0) (w : World)
    (Ss : List (Table ℕ)) (low : All LowTable Ss) (a : Around) (site : Site) (around-field : site.outer ≡ params_in w)
    (shows : Shows G decls N F w Ss a.numbers a.words) (ar : Arities) where
  stands-level : (k : Kind) (o : ℕ) (f : ℕ) (u : Term) (v : List ℕ) → length v ≡ params_in w + (site.params + kind_arity k) → length v ≤ width → All IsLevel v
      → arguments_of (kind_at a.facts o) ≡ kind_arity k → (x : Answer ℕ) → StandsBy a site o x f → Known a site decls N F ar (site.params + kind_arity k) k o u x
      → level_at f v ≡ eval_at (by_tables long_way G w Ss) (params_in w) u v
  stands-level k o f u v size short lows count (Some at) st kn =
      written-level G decls N F w Ss a.numbers a.words shows v lows (site.params + kind_arity k) size a.refs
      (keeps-tables G good w Ss low (take (params_in w) v) (take-levels (params_in w) v lows)) ar a.file at kn.next kn.text f u short
      (subst (λ (P : ℕ). TextForm (names_of a.refs a.numbers a.words P) a.file at f) around-field st) kn.stands kn.names kn.formed kn.same
  stands-level k o f u v size short lows count None st kn =
      let r : ℕ = implied_ref a.names a.facts a.contexts a.heads site.owner (get_or a.names o 0) in
      implied-level G decls N F w Ss a.numbers a.words shows v lows (site.params + kind_arity k) size ar r site.params k f short
      (subst (λ (m : ℕ). Gives f (implied_level a.numbers a.words r (params_in w) site.params m)) count
      (subst (λ (P : ℕ). Gives f (implied_level a.numbers a.words r P site.params (arguments_of (kind_at a.facts o)))) around-field st))
      refl kn.resolved kn.fits
      ∙ ap (λ (t : Term). eval_at (by_tables long_way G w Ss) (params_in w) t v) kn.same

  -- What the substitutes mean in the world of the field, by its tables.
  abbrev pub meanings : Link → Table ℕ
  meanings l k x us = eval_at (by_tables long_way G w Ss) (params_in w) (l.substitutes k x) us

  low-meanings : (l : Link) → LowTable (meanings l)
  low-meanings l k x us b =
      eval-good (by_tables long_way G w Ss (take (params_in w) us)) IsLevel
      (keeps-tables G good w Ss low (take (params_in w) us) (take-levels (params_in w) us b))
      (drop (params_in w) us) (all_drop IsLevel (params_in w) us b) (l.substitutes k x) [] tt

  -- The new form of each declaration of the module instanced gives the level of its substitute in the world of the field.
  pub substitutes-right : (l : Link) (codes declared before next : List ℕ) (n : ℕ) → site.params ≡ l.params
      → Substituted a site codes declared n before next
      → ((k : Kind) (x : ℕ) → DeclaredBy l k x → CodeOf a site decls N F ar codes k x (l.substitutes k x)) → params_in (l ∷ w) ≤ max_arity
      → (d : ℕ) → d < n → CodeShows a declared decls d → DeclaredBy l (get_or decls d no_declaration).0 (get_or decls d no_declaration).1
      → (us : List ℕ) → length us ≡ params_in (l ∷ w) + kind_arity (get_or decls d no_declaration).0 → All IsLevel us
      → level_at (form_at next d) us ≡ meanings l (get_or decls d no_declaration).0 (get_or decls d no_declaration).1 us
  substitutes-right l codes declared before next n ep sub code room d h shown own us size lows =
      let k : Kind = (get_or decls d no_declaration).0 in
      let x : ℕ = (get_or decls d no_declaration).1 in
      let c : CodeOf a site decls N F ar codes k x (l.substitutes k x) = code k x own in
      let there : same_declared a.names a.facts codes (get_or declared d 0) ≡ some c.code
      = same-there a.names a.facts codes (get_or declared d 0) x (kind_number k) c.code shown.named shown.kind c.found c.kind in
      let st : Stands a site c.code (form_at next d) = sub.each d h c.code there in
      let long : length us ≡ params_in w + (site.params + kind_arity k) = omega (arith, ep) in
      stands-level k c.code (form_at next d) (l.substitutes k x) us long (omega (arith, c.few)) lows
      (ap arguments_of c.kind ∙ count-kind k c.few) (written_at site.count a.file site.start x)
      (subst (λ (y : ℕ). StandsBy a site c.code (written_at site.count a.file site.start y) (form_at next d)) c.named st.means) c.known

  -- With the new forms and numbers in place, all holds one instance further in. M are the definitions that the old numbers show.
  pub world-entered : (l : Link) (codes declared before next old numbers' words' : List ℕ) (n : ℕ) (M : ℕ → Type 0) → site.params ≡ l.params
      → length decls ≤ n → n ≤ max_declarations → Substituted a site codes declared n before next → ((d : ℕ) → d < length decls → CodeShows a declared decls d)
      → ((k : Kind) (x : ℕ) → DeclaredBy l k x → CodeOf a site decls N F ar codes k x (l.substitutes k x)) → params_in (l ∷ w) ≤ max_arity
      → Replaced next a.words words' → ShowsNumbers M a.numbers w → ((h : ℕ) → In h l.names → M (brings l h))
      → length old ≡ max_definitions → Entered l.names l.first a.numbers old numbers'
      → ((h : ℕ) → NamedIn l h → number_in (l ∷ w) h < max_definitions)
      → ((h : ℕ) → NamedIn l h → (us : List ℕ) → All IsLevel us
      → level_at (form_at a.words (number_in (l ∷ w) h)) us ≡ G (number_in (l ∷ w) h) us)
      → Right long_way IsLevel G w Ss → Further G decls l w Ss numbers' words'
  world-entered l codes declared before next old numbers' words' n M ep all few sub shown code room new shown_numbers brought size entered small formed right =
      record {
        table = meanings l;
        low = low-meanings l;
        right = (λ k x d us q b. refl, right);
        numbered = numbered;
        shows = record {
          defined = λ g f us b.
              ap (λ (h : ℕ). level_at (form_at words' h) us) (numbered.each g f)
              ∙ ap (λ (x : ℕ). level_at x us) (new.definitions (number_in (l ∷ w) g) (small g f)) ∙ formed g f us b;
          declared = λ d o pre us p q b c.
              let below : d < max_declarations = omega (arith, o.0) in
              let inside : d < n = omega (arith, o.0) in
              let long : length (pre ++ us) ≡ params_in (l ∷ w) + kind_arity (get_or decls d no_declaration).0 = omega (arith, length-append pre us) in
              ap (λ (f : ℕ). level_at f (pre ++ us)) (new.declarations d below)
              ∙ substitutes-right l codes declared before next n ep sub code room d inside (shown d o.0) o.1 (pre ++ us) long
              (append-all IsLevel pre us b c);
        };
      }
    where
      numbered : ShowsNumbers (NamedIn l) numbers' (l ∷ w)
      numbered =
          let s : ShowsNumbers (λ h. (h < length old) × In h l.names) numbers' (l ∷ w)
          = numbers-shown M l w a.numbers old numbers' shown_numbers brought entered in
          record { each = λ h m. s.each h (subst (λ (k : ℕ). h < k) (sym size) m.0, m.1) }
