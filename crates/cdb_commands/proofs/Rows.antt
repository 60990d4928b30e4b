-- Lines worked through their definition.
use Rattle.std.proofs.Common.{◌≡◌, [], ◌∷◌, None, Some, codes, refl}
use Rattle.std.specs.Prelude.{pos, negsuc}
use Rattle.cdb_source.specs.declared.kind.Kind.TheVariants.{Elevation}
use Rattle.cdb_model.specs.Words.{digits, signed}
use Rattle.cdb_model.specs.Grammar.{Sentence, inline, source, publish, step, step_all, tile, blank, line_of, inline_source, file_source, head, fraction, posts, path_word, file_name, tile_request, one_word, sentence}
use Rattle.cdb_model.specs.Text.{Text}

abbrev Says : Text → Sentence → Type 0
Says line s = line_of line ≡ Some s

-- four posts at steps of half a degree
four_posts : Says (codes "inline elev -9 46 7 1/2 1/2 2 2 30 40 10 20") (inline (record {
  head = record {
    kind = Elevation;
    level = negsuc 8;
    lat = record { n = pos 46; d = pos 1 };
    lon = record { n = pos 7; d = pos 1 };
    dlat = record { n = pos 1; d = pos 2 };
    dlon = record { n = pos 1; d = pos 2 };
  };
  rows = 2;
  cols = 2;
  posts = pos 30 ∷ pos 40 ∷ pos 10 ∷ pos 20 ∷ [];
}))
unfolding line_of sentence inline_source head fraction posts signed digits
four_posts = refl

-- a file of the shelf
from_file : Says (codes "source elev -9 46 7 1/2 1/2 -32768 a.tif") (source (record {
  head = record {
    kind = Elevation;
    level = negsuc 8;
    lat = record { n = pos 46; d = pos 1 };
    lon = record { n = pos 7; d = pos 1 };
    dlat = record { n = pos 1; d = pos 2 };
    dlon = record { n = pos 1; d = pos 2 };
  };
  novalue = negsuc 32767;
  path = codes "a.tif";
}))
unfolding line_of sentence file_source head fraction path_word signed digits
from_file = refl

publication : Says (codes "publish") publish
unfolding line_of sentence one_word
publication = refl

steps : Says (codes "step all") step_all
unfolding line_of sentence
steps = refl

eight_steps : Says (codes "step 8") (step 8)
unfolding line_of sentence digits
eight_steps = refl

named : Says (codes "tile 01 A") (tile 1 (codes "A"))
unfolding line_of sentence digits file_name tile_request
named = refl

no_byte : Says (codes "") blank
unfolding line_of
no_byte = refl

-- too few words, two spaces, and a carriage return
too_few : line_of (codes "inline elev 0 46") ≡ None
unfolding line_of sentence inline_source head fraction signed digits
too_few = refl

two_spaces : line_of (codes "step  all") ≡ None
unfolding line_of sentence digits
two_spaces = refl
