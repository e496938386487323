mod SpatialLemmas
