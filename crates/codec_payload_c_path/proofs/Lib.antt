mod MetricPlaces
mod PlaceSteps
mod Values
