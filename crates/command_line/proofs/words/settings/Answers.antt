use Rattle.std.proofs.Common.{◌≡◌, ◌⊎◌, ◌∙◌, true, List, [], ◌∷◌, Option, Some, None, Err, inl, inr, refl, ap, map, subst, sym}
use Rattle.std.specs.Prelude.{option_map}
use Rattle.clap.specs.Words.{App, IsAmong, Row, Text, fault_of, found_of, is_simple, is_simple_and_free, rows_of, subcommand_of, takes}
use Rattle.clap.specs.Simple.{HasMatchesOf, subcommand_rows_of}
use Rattle.clap.specs.Matches.{subcommand_name_of}
use Rattle.clap.specs.declared.parser.matches.ArgMatches.{ArgMatches}
use Rattle.command_line.specs.declared.asked.Settings.{Settings}
use Rattle.clap.specs.declared.error.kind.ErrorKind.{ErrorKind}
use Rattle.clap.specs.declared.error.kind.ErrorKind.TheVariants.{DisplayVersion, OutOfMemory}
use Rattle.command_line.specs.Words.{AsksVersion, IsAskedBy, IsAskedIn, MayAskVersion, program}
use Rattle.command_line.proofs.words.settings.Goals as goal
use Rattle.command_line.proofs.words.settings.Goals.{in-Some+in_default-settings_in, in_default}

-- no argument of the grammar has a rule on another
simple : (app : App) → app ≡ program → is_simple_and_free app ≡ true
simple app e = subst (λ (a : App). is_simple_and_free a ≡ true) (sym e) refl

module _ (app : App) (words : List Text) (e : app ≡ program) where
  -- an error that tells the version came of words that may be answered so
  may_ask : (kind : ErrorKind) → (kind ≡ OutOfMemory) ⊎ IsAmong kind (fault_of app words) → kind ≡ DisplayVersion → MayAskVersion words
  may_ask kind has is = elim has [
    | inl memory ↦ absurd (let bad : OutOfMemory ≡ DisplayVersion = sym memory ∙ is in cc)
    | inr among ↦ subst (λ (k : ErrorKind). IsAmong k (fault_of program words)) is
        (subst (λ (a : App). IsAmong kind (fault_of a words)) e among)
  ]

  -- words that ask for the version alone give no other error
  asked_kind : (kind : ErrorKind) → (kind ≡ OutOfMemory) ⊎ IsAmong kind (fault_of app words) → AsksVersion words
      → (kind ≡ OutOfMemory) ⊎ (kind ≡ DisplayVersion)
  asked_kind kind has asks = elim has [
    | inl memory ↦ inl memory
    | inr among ↦
        let only : IsAmong kind (DisplayVersion ∷ []) = subst (λ (ks : List ErrorKind). IsAmong kind ks) asks
        (subst (λ (a : App). IsAmong kind (fault_of a words)) e among) in
        elim only [ inl is ↦ inr is | inr none ↦ absurd none ]
  ]

  -- words that ask for the version are not taken
  not_taken : fault_of app words ≡ [] → AsksVersion words → ⊥
  not_taken none asks =
      let bad : [] ≡ DisplayVersion ∷ [] = sym (subst (λ (a : App). fault_of a words ≡ []) e none) ∙ asks in cc

-- a name and the rows beside it, each read from one thing, are its pair
paired : {B : Type 0} (o : Option B) (f : B → Text) (g : B → List Row) (name : Text) (rows : List Row) → Some name ≡ option_map f o
    → Some rows ≡ option_map (λ (p : Text × List Row). p.1) (option_map {U = Text × List Row} (λ (b : B). (f b, g b)) o)
    → option_map {U = Text × List Row} (λ (b : B). (f b, g b)) o ≡ Some (name, rows)
paired None f g name rows is_name is_rows = absurd (let bad = is_name in cc)
paired (Some b) f g name rows is_name is_rows = cc

unpaired : {B : Type 0} (o : Option B) (f : B → Text) (g : B → List Row) → None ≡ option_map f o
    → option_map {U = Text × List Row} (λ (b : B). (f b, g b)) o ≡ None
unpaired None f g is_none = refl
unpaired (Some b) f g is_none = absurd (let bad = is_none in cc)

-- words that a parse met no command in ask for nothing
asks_nothing : (m : ArgMatches) → None ≡ subcommand_name_of m → (app : App) (words : List Text) → app ≡ program → HasMatchesOf app words m
    → (s : Settings) → IsAskedBy (subcommand_of program words) s → ⊥
asks_nothing m is_none app words e has s asked =
    let none : subcommand_rows_of m ≡ None = unpaired _ _ _ is_none in
    let same : subcommand_rows_of m ≡ subcommand_of program words = subst (λ (a : App). subcommand_rows_of m ≡ subcommand_of a words) e
    (has (subst (λ (a : App). is_simple a ≡ true) (sym e) refl)).1 in
    subst (λ (o : Option (Text × List Row)). IsAskedBy o s) (sym same ∙ none) asked

module _ (m : ArgMatches) (name : Text) (rows : List Row) (is_name : Some name ≡ subcommand_name_of m)
    (is_rows : Some rows ≡ option_map (λ (p : Text × List Row). p.1) (subcommand_rows_of m)) where
  -- the command that was met has this name and these rows
  met : subcommand_rows_of m ≡ Some (name, rows)
  met = paired _ _ _ name rows is_name is_rows

  module _ (app : App) (words : List Text) (e : app ≡ program) (has : HasMatchesOf app words m) where
    named : subcommand_of program words ≡ Some (name, rows)
    named = sym (subst (λ (a : App). subcommand_rows_of m ≡ subcommand_of a words) e
        (has (subst (λ (a : App). is_simple a ≡ true) (sym e) refl)).1) ∙ met

    to_words : (s : Settings) → IsAskedIn name rows s → IsAskedBy (subcommand_of program words) s
    to_words s asked = subst (λ (o : Option (Text × List Row)). IsAskedBy o s) (sym named) asked

    from_words : (s : Settings) → IsAskedBy (subcommand_of program words) s → IsAskedIn name rows s
    from_words s asked = subst (λ (o : Option (Text × List Row)). IsAskedBy o s) named asked

-- words that the grammar takes are refused by the parser only where memory runs out
pub returns-in-Err-clause-taken : goal.returns-in-Err-clause-taken
returns-in-Err-clause-taken g c s taken asked range =
    let words = map g.S.AsStr.text c.args.words.now in
    let program_is = sym c.in_ok-program.ensures in
    c.fault_of.ensures.memory (c.in-Err.ensures.passes (subst (λ (a : App). takes a words ≡ true) program_is taken))

pub returns-in-Err-clause-version_asked : goal.returns-in-Err-clause-version_asked
returns-in-Err-clause-version_asked g c was =
    may_ask _ (map g.S.AsStr.text c.args.words.now) c.in_ok-program.ensures _
    (c.in-Err.ensures.kinds (simple _ c.in_ok-program.ensures)) (c.fault_of.ensures.version_asked (let e = was in cc))

pub returns-in-Err-clause-version : goal.returns-in-Err-clause-version
returns-in-Err-clause-version g c asks other =
    let kinds = asked_kind _ (map g.S.AsStr.text c.args.words.now) c.in_ok-program.ensures _
    (c.in-Err.ensures.kinds (simple _ c.in_ok-program.ensures)) asks in
    elim kinds [
      | inl memory ↦ absurd (other (ap Err (c.fault_of.ensures.memory memory)))
      | inr is ↦ ap Err (c.fault_of.ensures.version is)
    ]

pub returns-in-Some-settings_in-clause-version : goal.returns-in-Some-settings_in-clause-version
returns-in-Some-settings_in-clause-version g c asks other =
    absurd (not_taken _ (map g.S.AsStr.text c.args.words.now) c.in_ok-program.ensures (c.in-Ok.ensures.kinds (simple _ c.in_ok-program.ensures)) asks)

pub returns-clause-version : goal.returns-clause-version
returns-clause-version g c asks other =
    absurd (not_taken _ (map g.S.AsStr.text c.args.words.now) c.in_ok-program.ensures (c.in-Ok.ensures.kinds (simple _ c.in_ok-program.ensures)) asks)

pub returns-in-Some-settings_in-clause-asked : goal.returns-in-Some-settings_in-clause-asked
returns-in-Some-settings_in-clause-asked g c =
    to_words c.in-Ok.matches c.in-Some.name.now (rows_of (found_of c.in-Some.command.now)) c.in-Some.ensures.name c.in-Some.ensures.rows
    _ (map g.S.AsStr.text c.args.words.now) c.in_ok-program.ensures c.in-Ok.ensures.matches
    c.in-Some-settings_in.settings c.in-Some-settings_in.ensures.asked

pub returns-in-Some-settings_in-clause-taken : goal.returns-in-Some-settings_in-clause-taken
returns-in-Some-settings_in-clause-taken g c s taken asked range =
    let own : IsAskedIn c.in-Some.name.now (rows_of (found_of c.in-Some.command.now)) s =
    from_words c.in-Ok.matches c.in-Some.name.now (rows_of (found_of c.in-Some.command.now)) c.in-Some.ensures.name c.in-Some.ensures.rows
    _ (map g.S.AsStr.text c.args.words.now) c.in_ok-program.ensures c.in-Ok.ensures.matches s asked in
    let was = sym c.in-Some-settings_in.is ∙ c.settings_in.ensures.taken s own range in cc

pub returns-clause-taken : goal.returns-clause-taken
returns-clause-taken g c s taken asked range = elim c.match-subcommand.branch [
  | in-Some+in_default-settings_in w ↦
      let own : IsAskedIn w.in-Some.name.now (rows_of (found_of w.in-Some.command.now)) s =
      from_words c.in-Ok.matches w.in-Some.name.now (rows_of (found_of w.in-Some.command.now)) w.in-Some.ensures.name w.in-Some.ensures.rows
      _ (map g.S.AsStr.text c.args.words.now) c.in_ok-program.ensures c.in-Ok.ensures.matches s asked in
      absurd (w.in_default-settings_in.not-Some s (w.settings_in.ensures.taken s own range))
  | in_default w ↦ absurd (asks_nothing c.in-Ok.matches w.in_default.ensures.name _ (map g.S.AsStr.text c.args.words.now)
      c.in_ok-program.ensures c.in-Ok.ensures.matches s asked)
]
