mod NamesLemmas
