-- The three calls as rows. Document 02, Change 7: "Add insertion, removal by BASE, and lookup by page over a lent buffer"; "Old numbers serve: 1 length; 2 a tree unlawful or with a range that insertion beside the others would refuse; 6 and 17 rights; 8 a range under 8 pages, past page 1,023 or with a frame above 4,095, or such a page, or such a BASE to remove; 11 overlap with a held range; 12 no such range, or none with the page."
use Rattle.std.specs.Prelude.{not, List, [], ◌∷◌, ◌++◌, ℕ, ltb, eqb, length}
use Rattle.words.specs.Refusals.{Refusal}
use Rattle.words.specs.Rows.{Row}
use Rattle.runs.specs.PageWords.{last_page}
use Rattle.trees.specs.declared.Range.{Range}
use Rattle.trees.specs.Ranges.{look_list, held, holds_base, beside_refusals}
use Rattle.trees.specs.Nodes.{words_in_tree, root_in}
use Rattle.trees.specs.Trees.{tree_words, tree_of, height_of, tree_at, contents_of, path_length}
use Rattle.trees.specs.Insertion.{insert_tree}
use Rattle.trees.specs.Removal.{remove_tree}
use Rattle.trees.specs.Inner.Walk.{lawful}

-- "1 length; 2 a tree unlawful" (`LawfulExactly` says what `lawful` finds)
unfoldable pub buffer_refusals : List ℕ → List (Refusal ℕ)
buffer_refusals b = record { when = not (eqb (length b) words_in_tree); answer = 1 } ∷ record { when = not (lawful b); answer = 2 } ∷ []

-- "8 .. past page 1,023 .. or such a page, or such a BASE to remove"
unfoldable pub past_pages : ℕ → Refusal ℕ
past_pages p = record { when = ltb last_page p; answer = 8 }

-- insertion: values 0 and 0
unfoldable pub insert_call : List ℕ → Range → Row (List ℕ)
insert_call b r = record { refusals = buffer_refusals b ++ beside_refusals r (contents_of b); first = 0; second = 0; new = tree_words (insert_tree r (tree_of b)) }

-- "removal by BASE": values 0 and 0; "12 no such range"
unfoldable pub remove_call : List ℕ → ℕ → Row (List ℕ)
remove_call b base =
    record {
      refusals = buffer_refusals b ++ past_pages base ∷ record { when = not (holds_base base (contents_of b)); answer = 12 } ∷ [];
      first = 0;
      second = 0;
      new = tree_words (remove_tree base (tree_of b));
    }

-- "Lookup gives 4,096 × rights + frame, as a list of the same ranges would, then the count of nodes on its path from the root"; "12 .. none with the page"
unfoldable pub lookup_call : List ℕ → ℕ → Row (List ℕ)
lookup_call b p =
    record {
      refusals = buffer_refusals b ++ past_pages p ∷ record { when = not (held (contents_of b) p); answer = 12 } ∷ [];
      first = look_list (contents_of b) p;
      second = path_length p (height_of b) (tree_at b (height_of b) (root_in b));
      new = b;
    }
