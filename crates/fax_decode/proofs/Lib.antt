mod LaidParts
mod PartReadings
mod StrictReadings
