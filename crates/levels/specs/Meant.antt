-- What a text's names are looked up in, as the code holds it.
use Rattle.levels.specs.Tables.{Names, names_of}
use Rattle.levels.specs.declared.meaning.Meanings.{Meanings}

abbrev pub meant : Meanings → Names
meant m = names_of m.refs.now m.numbers.now m.words.now m.outer
